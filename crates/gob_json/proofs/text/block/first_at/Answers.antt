-- From the first digit that counts on.
use Rattle.std.proofs.Common.{ℕ, List, ap, ◌∙◌, ◌+◌, ◌-◌, arith, take}
use Rattle.gob_json.proofs.DigitLaws.{counts, first_stored}
use Rattle.gob_json.proofs.text.block.first_at.Goals as goal
use borrow.Rule.Slice.PartMut.{put_mid}

pub returns-clause-text : goal.returns-clause-text
returns-clause-text c =
    let at = c.args.at in
    let b = c.args.block.now in
    let k = at + 4 - at in
    let z = c.from.result + c.from-2.result in
    ap (λ (bytes : List ℕ). take (at + (3 - z)) (put_mid at k b bytes)) c.copy_from_slice.ensures.after
    ∙ first_stored b at c.args.number _ _ k _ c.requires.0 (omega (arith, c.requires.1)) (counts _ 10 _ c.from.ensures)
    (counts _ 100 _ c.from-2.ensures) (omega arith)
