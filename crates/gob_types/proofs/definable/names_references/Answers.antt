use Rattle.std.proofs.Common.{◌≡◌, ◌↔◌, inl, inr, Bool, IsTrue, refl, sym, subst, true≢false, ◌⊎◌, ◌∙◌}
use Rattle.gob_types.specs.declared.id.TypeId.{TypeId}
use Rattle.gob_types.specs.declared.kind.Kind.{Kind}
use Rattle.gob_types.specs.declared.kind.Kind.TheVariants as kind
use Rattle.gob_types.specs.Definable.{IsReference}
use Rattle.gob_types.specs.Ready.{Names}
use Rattle.gob_types.proofs.definable.names_references.Goals as goal

-- the answer for a kind
abbrev Judges : Kind → Bool → Type 0
Judges k r = IsTrue r ↔ ((u : TypeId) → Names k u → IsReference u)

one : (e : TypeId) (r : Bool) → IsTrue r ↔ IsReference e → IsTrue r ↔ ((u : TypeId) → e ≡ u → IsReference u)
one e r j = (λ yes u same. subst IsReference same (j.0 yes), λ each. j.1 (each e refl))

pub returns-in-Struct : goal.returns-in-Struct
returns-in-Struct c =
    let j : Judges (kind.Struct c.as_slice.result.now) c.are_references.result = c.are_references.ensures in
    subst (λ k. Judges k c.are_references.result) (sym c.in-Struct.is)
    (subst (λ fields. Judges (kind.Struct fields) c.are_references.result) c.as_slice.ensures j)

pub returns-in-Array : goal.returns-in-Array
returns-in-Array c = subst (λ k. Judges k c.is_reference.result) (sym c.in-Array.is) (one _ _ c.is_reference.ensures)

pub returns-in-Slice : goal.returns-in-Slice
returns-in-Slice c = subst (λ k. Judges k c.is_reference-in-Slice.result) (sym c.in-Slice.is)
    (one _ _ c.is_reference-in-Slice.ensures)

pub returns-then-is_reference : goal.returns-then-is_reference
returns-then-is_reference c =
    let key = c.if-is_reference.ensures.0 refl in
    let elem = c.is_reference-then-is_reference.ensures in
    let either : IsTrue c.is_reference-then-is_reference.result → (u : TypeId) → (c.in-Map.key ≡ u)
    ⊎ (c.in-Map.elem ≡ u) → IsReference u =
    λ yes u. elim [ inl same ↦ subst IsReference same key | inr same ↦ subst IsReference same (elem.0 yes) ] in
    subst (λ k. Judges k c.is_reference-then-is_reference.result) (sym c.in-Map.is)
    (either, λ each. elem.1 (each c.in-Map.elem (inr refl)))

pub returns-else-is_reference : goal.returns-else-is_reference
returns-else-is_reference c =
    let r = c.is_reference-in-Map.result in
    subst (λ k. Judges k r) (sym c.in-Map.is) (
      λ yes. absurd (true≢false (sym yes ∙ c.if-is_reference.false)),
      λ each. c.is_reference-in-Map.ensures.1
          (each c.in-Map.key (inl refl)),
    )
