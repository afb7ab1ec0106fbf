-- All three.
use Rattle.std.proofs.Common.{ℕ, List, ap, ◌∙◌, ◌+◌, ◌-◌, arith, take}
use Rattle.gob_json.proofs.DigitLaws.{three_stored}
use Rattle.gob_json.proofs.text.block.three_at.Goals as goal
use borrow.Rule.Slice.PartMut.{put_mid}

pub returns-clause-text : goal.returns-clause-text
returns-clause-text c =
    let at = c.args.at in
    let b = c.args.block.now in
    let k = at + 4 - at in
    ap (λ (bytes : List ℕ). take (at + 3) (put_mid at k b bytes)) c.copy_from_slice.ensures.after
    ∙ three_stored b at c.args.number k _ c.requires.0 (omega (arith, c.requires.1)) (omega arith)
