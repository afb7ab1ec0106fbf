use Rattle.std.proofs.Common.{◌≡◌, ◌-◌, ℕ, List, Option, length, reverse, Some, ◌∙◌, sym, ap, subst}
use Rattle.std.specs.Prelude.{slice_get}
use Rattle.std.proofs.lemmas.Option.{same_Some, none-some}
use Rattle.std.proofs.lemmas.Result.{on_ok_weaker}
use Rattle.gob_types.specs.declared.id.TypeId.{TypeId}
use Rattle.gob_types.specs.declared.kind.Shape.{Shape}
use Rattle.gob_types.specs.Table.{Table, shape_of}
use Rattle.gob_tape.specs.declared.node.Node.{Node}
use Rattle.gob_tape.specs.declared.tidying.Open.{Open}
use Rattle.gob_tape.specs.Machine.State.{State}
use Rattle.gob_tape.specs.Machine.Tidying.{IsNextType, PartHasEvents, innermost}
use Rattle.gob_tape.proofs.TidyingLaws.{innermost_is}
use Rattle.gob_tape.proofs.tidying.tell_node.Goals as goal

-- the next part's type, of the innermost part and the number that the calls gave
due : {T : Table} {t e : TypeId} {os shown : List Open} {given last : Option Open} {k f : Option ℕ} → shown ≡ os
    → given ≡ slice_get shown (length shown - 1) → last ≡ given → k ≡ f
    → IsNextType T t (innermost (reverse os)) f e → IsNextType T t last k e
due {T = T} {t = t} {e = e} {os = os} {last = last} {f = f} same top taken field n =
    let at = ap (λ l. slice_get l (length l - 1)) (sym same) ∙ sym top ∙ sym taken in
    subst (λ k. IsNextType T t last k e) (sym field) (subst (λ o. IsNextType T t o f e) (innermost_is os at) n)

-- the part that was told of is the one that was due
told : {i : ℕ} {x : Node} {t e : TypeId} {found s : Shape} {pool : List ℕ} {before begun after : List Open}
    {old new : State}
    → t ≡ e → found ≡ s → before ≡ begun → PartHasEvents i x found.kind t pool before after old new
    → PartHasEvents i x s.kind e pool begun after old new
told {i = i} {x = x} {t = t} {e = e} {s = s} {pool = pool} {before = before} {after = after} {old = old} {new = new}
    type shape on p =
    subst (λ os. PartHasEvents i x s.kind e pool os after old new) on
    (subst (λ e. PartHasEvents i x s.kind e pool before after old new) type
    (subst (λ (s : Shape). PartHasEvents i x s.kind t pool before after old new) shape p))

pub returns : goal.returns
returns g c =
    let T = g.S.Shapes.table c.args.shapes.now in
    on_ok_weaker c.tell_part.result
    (λ d e s n h.
    let next = due c.deref.ensures.value c.last.ensures.value c.copied.ensures c.field.ensures n in
    let type : c.in-Some.id ≡ e = same_Some c.in-Some.id e (sym c.in-Some.is ∙ c.next_type.ensures.found e next) in
    let there : Some c.in-Some-shape_of.shape.now ≡ shape_of T c.in-Some.id = c.in-Some-shape_of.ensures in
    let shape : c.in-Some-shape_of.shape.now ≡ s = same_Some c.in-Some-shape_of.shape.now s (there
    ∙ ap (shape_of T) type ∙ h) in
    (λ f h. c.next_type.ensures.small e f next (c.field.ensures ∙ h), told type shape c.advance.ensures d))
    c.tell_part.ensures

pub returns-in_default : goal.returns-in_default
returns-in_default g c = λ e s n h.
    let next = due c.deref.ensures.value c.last.ensures.value c.copied.ensures c.field.ensures n in
    absurd (c.in_default.not-Some e (c.next_type.ensures.found e next))

pub returns-in_default-shape_of : goal.returns-in_default-shape_of
returns-in_default-shape_of g c = λ e s n h.
    let T = g.S.Shapes.table c.args.shapes.now in
    let next = due c.deref.ensures.value c.last.ensures.value c.copied.ensures c.field.ensures n in
    let type : c.in-Some.id ≡ e = same_Some c.in-Some.id e (sym c.in-Some.is ∙ c.next_type.ensures.found e next) in
    absurd (none-some s (c.in_default-shape_of.ensures ∙ ap (shape_of T) type ∙ h))
