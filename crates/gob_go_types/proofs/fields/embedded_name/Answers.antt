-- The name is that of the type, or of the one that is pointed to.
use Rattle.std.proofs.Common.{◌≡◌, ◌∙◌, List, ℕ, Some, ap}
use Rattle.std.specs.Borrow.{Bor}
use Rattle.gob_go_source.specs.declared.go_type.GoType.{GoType}
use Rattle.gob_go_types.specs.Fields.{EmbeddedName, last_name, of_pointer, of_type}
use Rattle.gob_go_types.proofs.SightLaws.{if_ok}
use Rattle.gob_go_types.proofs.fields.embedded_name.Goals as goal

pub returns-in-Pointer : goal.returns-in-Pointer
returns-in-Pointer c =
    if_ok (λ (w : Bor (List ℕ)). last_name c.in_ok-under.under.now ≡ Some w)
    (λ (w : Bor (List ℕ)). EmbeddedName c.args.code.now.source.now c.args.place w) c.last_name.result
    (λ w h. of_pointer (c.in_ok-found.ensures ∙ ap (λ (t : GoType). Some t) c.in-Pointer.is) c.in_ok-under.ensures h)
    c.last_name.ensures

pub returns : goal.returns
returns c =
    if_ok (λ (w : Bor (List ℕ)). last_name c.in_ok-found.found.now ≡ Some w)
    (λ (w : Bor (List ℕ)). EmbeddedName c.args.code.now.source.now c.args.place w) c.last_name-2.result
    (λ w h. of_type c.in_ok-found.ensures h) c.last_name-2.ensures
