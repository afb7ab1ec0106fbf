-- The text is that of what was seen, as the sets say it.
use Rattle.std.proofs.Common.{◌≡◌, ◌∙◌, ◌++◌, ℕ, List, ap, not}
use Rattle.gob_source.specs.Machine.{has_name, with_name}
use Rattle.gob_source.specs.Program.{chosen_text}
use Rattle.gob_source.specs.Registered.{naming}
use Rattle.gob_source.proofs.FieldNameLaws.{on_ok}
use Rattle.gob_source.proofs.RegisteredLaws.{seen_next}
use Rattle.gob_source.proofs.registrations.push_registration.Goals as goal

pub returns : goal.returns
returns g c =
    let T = g.S.Shapes.table c.args.types.now.shapes.now in
    let ts = c.args.types.now.ids.now in
    let p = naming c.args.registered.now in
    let names = c.args.names.now in
    let out = c.args.out.now.items in
    let told = c.in_ok-new_name.ensures in
    let same = c.as_slice.ensures.value in
    on_ok c.push_chosen.result
    (λ (added : c.push_chosen.new.out.items
    ≡ out ++ chosen_text T ts c.in_ok-new_name.new_name c.in_ok-new_type.new_type p) seen knows.
    let next = seen_next T ts names c.add.new.self c.args.ids.now.keys c.insert_full.new.self.keys p
    c.in_ok-new_name.new_name c.in_ok-new_type.new_type (told.0 ∙ ap (λ (m : List ℕ). not (has_name m names)) same)
    (told.1 ∙ ap (λ (m : List ℕ). with_name names m) same) c.in_ok-new_type.ensures.added c.in_ok-new_type.ensures.keys
    seen knows in (
      added ∙ ap (λ (l : List ℕ). out ++ l) next.0,
      next.1,
    ))
    c.push_chosen.ensures
