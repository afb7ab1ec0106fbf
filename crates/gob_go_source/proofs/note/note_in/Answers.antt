use Rattle.std.proofs.Common.{◌∙◌, ap, sym, take, ℕ}
use Rattle.gob_types.proofs.PublicLaws.{some_injective}
use Rattle.gob_go_source.specs.Notes.{marshal_of, notes, notes_nothing}
use Rattle.gob_go_source.proofs.note.note_in.Goals as goal

pub returns : goal.returns
returns c =
    notes (sym c.in_ok-size.ensures.end) (c.in_ok-id.ensures ∙ c.split_at.ensures.front)
    (c.marshal_of.ensures ∙ ap marshal_of c.split_at.ensures.back)

pub returns-in_err-size : goal.returns-in_err-size
returns-in_err-size c =
    rw c.from_residual.ensures (notes_nothing (λ size e n small same. cc (c.in_err-size.ensures.end ∙ e)))

pub returns-in_err-id : goal.returns-in_err-id
returns-in_err-id c =
    rw c.from_residual-in_err-id.ensures
    (notes_nothing (λ size e n small same.
    let one = some_injective (sym e ∙ sym c.in_ok-size.ensures.end) in
    c.in_err-id.ensures n small
    (same ∙ ap (λ (k : ℕ). take k c.args.text.now) one ∙ sym c.split_at.ensures.front)))
