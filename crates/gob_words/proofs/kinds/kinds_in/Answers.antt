-- Each word says one kind, or all of them say none.
use Rattle.std.proofs.Common.{rules, ◌≡◌, [], ◌∷◌, ◌++◌}
use Rattle.gob_words.proofs.KindLaws.{all_said, none_said, not_said, one_said, says_no_kinds}
use Rattle.gob_words.proofs.kinds.kinds_in.Goals as goal

pub loop-word-init : goal.loop-word-init
loop-word-init c = none_said c.args.words.now _ c.new-kinds.ensures.items

pub loop-word-preserved : goal.loop-word-preserved
loop-word-preserved c =
    let pushed : c.push.new.self.items ≡ c.loop-word.kinds.items ++ c.in-Some.kind ∷ [] = search rules in
    one_said c.args.words.now c.loop-word.word-index _ _ _ _ c.loop-word-test.true c.in-Some.ensures pushed
    c.loop-word.invariant

pub returns-in-None : goal.returns-in-None
returns-in-None c = says_no_kinds _ _ (not_said c.args.words.now c.loop-word.word-index _ _
    c.loop-word-test.true c.in-None.ensures c.loop-word.invariant) c.said.ensures

pub returns : goal.returns
returns c = all_said c.args.words.now c.loop-word.word-index _ c.loop-word-test.false c.loop-word.invariant
