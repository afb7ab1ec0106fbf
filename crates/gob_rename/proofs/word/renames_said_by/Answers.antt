-- Each word says one of them, or one says nothing.
use Rattle.std.proofs.Common.{rules, ◌≡◌, ◌++◌, [], ◌∷◌}
use Rattle.gob_rename.proofs.WordLaws.{all_said, none_said, one_more, says_nothing}
use Rattle.gob_rename.proofs.word.renames_said_by.Goals as goal

pub loop-number-init : goal.loop-number-init
loop-number-init c = none_said c.args.words.now c.new-renames.ensures.items

pub loop-number-preserved : goal.loop-number-preserved
loop-number-preserved c =
    let pushed : c.push.new.self.items ≡ c.loop-number.renames.items ++ c.in-Ok.rename ∷ [] = search rules in
    one_more c.args.words.now c.loop-number.number _ _ _ _ c.loop-number-test.true c.in-Ok.ensures.0 c.in-Ok.ensures.1
    pushed c.loop-number.invariant

pub returns-in-Err : goal.returns-in-Err
returns-in-Err c = says_nothing c.args.words.now c.loop-number.number _ _ _ c.loop-number-test.true c.in-Err.ensures
    c.loop-number.invariant

pub returns : goal.returns
returns c = all_said c.args.words.now c.loop-number.number _ c.loop-number-test.false c.loop-number.invariant
