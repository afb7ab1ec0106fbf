use Rattle.std.proofs.Common.{◌∙◌, sym, subst, List, ℕ}
use Rattle.gob_num.proofs.PlaceLaws.{all_taken}
use Rattle.gob_go_source.specs.Notes.{NoteOf, says_note, says_nothing}
use Rattle.gob_go_source.proofs.note.note_of.Goals as goal

pub returns-then-not-starts_with : goal.returns-then-not-starts_with
returns-then-not-starts_with c =
    says_nothing (λ t. cc (sym t ∙ (sym c.starts_with.ensures.value ∙ c.if-not-starts_with.true)))

pub returns : goal.returns
returns c =
    says_note (sym c.starts_with.ensures.value ∙ c.if-not-starts_with.false)
    (subst (λ (l : List ℕ). NoteOf l c.note_in.result) (all_taken c.args.comment.now 8) c.note_in.ensures)
