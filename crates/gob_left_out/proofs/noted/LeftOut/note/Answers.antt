use Rattle.std.proofs.Common.{◌≡◌, ◌++◌, ◌∷◌, [], ◌∙◌, List, subst, sym}
use Rattle.indexmap.proofs.CallerLemmas.{insert_entry-new}
use Rattle.gob_match.specs.declared.step.TypeStep.TheVariants as step
use Rattle.gob_match.proofs.FoundLaws.{no_lookup}
use Rattle.gob_left_out.specs.LeftOut.{Row}
use Rattle.gob_left_out.specs.Machine.Walk.{IsAlone, Notes}
use Rattle.gob_left_out.specs.Tally.{same_field}
use Rattle.gob_left_out.proofs.NoteLaws.{known_row, notes_known, notes_new}
use Rattle.gob_left_out.proofs.noted.LeftOut.note.Goals as goal

pub returns-in-Some : goal.returns-in-Some
returns-in-Some c =
    let rows = c.self.inside.rows.entries in
    subst (λ (rows : List Row). Notes rows rows (IsAlone c.args.field
    (c.args.trail.now ++ step.Named c.args.name.now ∷ []))) c.self.view_is
    (notes_known (known_row rows c.args.field c.in-Some._known (sym c.in-Some.ensures.index)))

pub returns : goal.returns
returns c =
    let none = no_lookup _ (sym c.in_default.ensures.found) in
    let grown : c.insert.new.self.entries ≡ c.self.inside.rows.entries ++ (c.args.field, c.in_ok-path.path) ∷ [] =
    c.in_ok-insert.ensures.entries
    ∙ insert_entry-new same_field c.self.inside.rows c.args.field c.in_ok-path.path none in
    subst (λ (rows : List Row). Notes rows c.insert.new.self.entries (IsAlone c.args.field
    (c.args.trail.now ++ step.Named c.args.name.now ∷ []))) c.self.view_is
    (notes_new c.in_ok-path.path grown c.in_ok-path.ensures)
