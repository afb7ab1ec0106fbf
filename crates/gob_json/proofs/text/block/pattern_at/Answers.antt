-- The digits between two quotes.
use Rattle.std.proofs.Common.{ℕ, List, ◌++◌, ◌∙◌, ◌+◌, ◌-◌, ap, arith, set, take}
use Rattle.gob_json.proofs.DigitLaws.{between_stored}
use Rattle.gob_json.proofs.LeafLaws.{pattern_text}
use Rattle.gob_json.proofs.text.block.pattern_at.Goals as goal
use borrow.Rule.Slice.PartMut.{put_mid}

pub returns-clause-text : goal.returns-clause-text
returns-clause-text c =
    let at = c.args.at in
    let b = c.args.block.now in
    let digits = c.pattern_digits.result in
    let k = at + 17 - (at + 1) in
    ap (λ (l : List ℕ). take (at + 18) (set (put_mid (at + 1) k (set b at 34) l) (at + 17) 34))
    c.copy_from_slice.ensures.after
    ∙ between_stored b digits at k (at + 17) (at + 18) 34 34 (omega arith) (omega arith) (omega (arith, c.requires))
    (omega arith)
    ∙ ap (λ (l : List ℕ). take at b ++ l)
    (pattern_text c.args.pattern c.to_be_bytes.result digits c.to_be_bytes.ensures c.pattern_digits.ensures)
