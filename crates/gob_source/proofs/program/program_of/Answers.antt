-- The program is all that is made.
use Rattle.std.proofs.Common.{◌∙◌, ◌++◌, ℕ, List, ap}
use Rattle.gob_types.specs.declared.id.TypeId.{TypeId}
use Rattle.gob_source.specs.Program.{go_program}
use Rattle.gob_source.specs.Registered.{namings}
use Rattle.gob_source.specs.declared.registered.Registered.{Registered}
use Rattle.gob_source.proofs.program.program_of.Goals as goal

pub returns : goal.returns
returns g c =
    let vs = c.args.values.now in
    let types = c.in_ok-types.types in
    let ts = c.args.ids.now in
    let T = g.S.Shapes.table c.args.shapes.now in
    let all = c.in_ok-names.names.all.now in
    c.in_ok-push_program.ensures
    ∙ ap (λ (l : List ℕ). l ++ go_program (g.S.Shapes.table types.shapes.now) types.ids.now (namings all) vs)
    c.new-out.ensures.items
    ∙ ap (λ s. go_program (g.S.Shapes.table s) types.ids.now (namings all) vs) c.in_ok-types.ensures.shapes
    ∙ ap (λ (us : List TypeId). go_program T us (namings all) vs) c.in_ok-types.ensures.ids
    ∙ ap (λ (rs : List Registered). go_program T ts (namings rs) vs) c.in_ok-names.ensures
