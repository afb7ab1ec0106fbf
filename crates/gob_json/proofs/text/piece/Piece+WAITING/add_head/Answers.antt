-- The comma, and what counts of the head.
use Rattle.std.proofs.Common.{ℕ, List, ◌++◌, ◌∙◌, ◌+◌, ◌-◌, ap, append_assoc, arith, take}
use Rattle.serde_json.specs.Written.{comma_if}
use Rattle.gob_json.specs.Machine.Piece.{piece_text}
use Rattle.gob_json.proofs.DigitLaws.{kept_stored}
use Rattle.gob_json.proofs.text.piece.Piece+WAITING.add_head.Goals as goal
use borrow.Rule.Slice.PartMut.{put_mid}

pub returns : goal.returns
returns c =
    let at = c.comma_at-at.result in
    let b = c.comma_at-at.new.block in
    let head = c.args.head.now in
    ap (λ (l : List ℕ). take (at + head.len) (put_mid at (at + 32 - at) b l)) c.copy_from_slice.ensures.after
    ∙ kept_stored b head.bytes at (at + 32 - at) head.len (omega (arith, c.comma_at-at.ensures.end, c.requires))
    (omega arith)
    ∙ ap (λ (l : List ℕ). l ++ piece_text head) c.comma_at-at.ensures.text
    ∙ append_assoc (piece_text c.args.self.now) (comma_if c.args.later) (piece_text head)
