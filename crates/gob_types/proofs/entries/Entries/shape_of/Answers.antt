use Rattle.std.proofs.Common.{◌≡◌, ℕ, ◌∙◌, sym, ap, Some}
use borrow.Author.Tests.{eqb-true}
use Rattle.gob_types.specs.declared.id.TypeId.{TypeId}
use Rattle.gob_types.specs.Table.{shape_of}
use Rattle.gob_types.proofs.TableLaws.{lookup-shape_of}
use Rattle.gob_types.proofs.entries.Entries.shape_of.Goals as goal

pub returns-in-Some : goal.returns-in-Some
returns-in-Some c =
    let T = c.self.inside.shapes.entries in
    let same : c.in-Some.there.now ≡ c.args.id = ap (λ (n : ℕ). let t : TypeId = record { 0 = n } in t)
    (eqb-true _ _ (sym c.eq.ensures ∙ c.if-eq.true)) in
    let found : Some c.in-Some.shape.now ≡ shape_of T c.in-Some.there.now = sym c.in-Some.ensures.value
    ∙ lookup-shape_of T c.in-Some.there.now in
    found ∙ ap (shape_of T) same ∙ ap (λ U. shape_of U c.args.id) c.self.view_is
