-- Steps of the two searches.
use Rattle.std.proofs.Common.{◌≡◌, ℕ, ◌<◌, ◌≤◌, ◌+◌, List, Option, Some, None, MatchOption, length, get_or, drop}
use Rattle.std.proofs.Common.{refl, sym, ◌∙◌, subst, eq-eqb}
use Rattle.std.proofs.lemmas.Bool.{ne_eqb}
use Rattle.std.proofs.lemmas.List.{at_drop_all}
use Rattle.std.specs.Prelude.{slice_get}
use Rattle.gob_types.specs.KindParts.{fields_named}
use Rattle.gob_types.specs.declared.kind.Field.{Field}
use Rattle.gob_types.specs.declared.kind.Shape.{Shape}
use Rattle.gob_types.proofs.PublicLaws.{some_injective}
use Rattle.gob_value.specs.declared.value.Value.{Value}
use Rattle.gob_value.specs.View.{view, field_views}
use Rattle.gob_value.proofs.ViewLaws.{field_item}
use Rattle.gob_all.specs.LookUps.{IsNamed, AreNotNamed, IsFirstNamed, HasNoField, IsFirstField, field_at}

-- a field with another name isn't named so
pub not_named : {fs : List Field} {name : List ℕ} {k : ℕ} {f : Field} → slice_get fs k ≡ Some f
    → (f.name ≡ name → ⊥) → ¬ IsNamed fs name k
not_named {name = name} there other h = other (subst (λ (g : Field). g.name ≡ name)
    (some_injective (sym h.there ∙ there)) h.named)

-- at a part of the number that is sought
pub found_here : (number : ℕ) (fs : List (ℕ × Value)) (i : ℕ) (f : ℕ × Value) → f ≡ get_or fs i f → i < length fs
    → f.0 ≡ number → field_at number (field_views (drop i fs)) ≡ Some (view f.1)
found_here number fs i f is h same = rw (field_item fs i f is h, eq-eqb f.0 number same) refl

-- at a part of another number
pub found_later : (number : ℕ) (fs : List (ℕ × Value)) (i : ℕ) (f : ℕ × Value) → f ≡ get_or fs i f → i < length fs
    → (f.0 ≡ number → ⊥) → field_at number (field_views (drop i fs)) ≡ field_at number (field_views (drop (i + 1) fs))
found_later number fs i f is h other = rw (field_item fs i f is h, ne_eqb f.0 number other) refl

-- behind the last part
pub found_none : (number : ℕ) (fs : List (ℕ × Value)) (i : ℕ) → length fs ≤ i
    → field_at number (field_views (drop i fs)) ≡ None
found_none number fs i h = at_drop_all (λ (gs : List (ℕ × Value)). field_at number (field_views gs)) fs i h

-- what is found among the fields of a struct is found in its type
pub first_field : (s : Shape) (name : List ℕ) (r : Option ℕ) {fs : List Field} → fields_named s.kind ≡ Some fs
    → MatchOption r (AreNotNamed fs name) (λ number. IsFirstNamed fs name number)
    → MatchOption r (HasNoField s name) (λ number. IsFirstField s name number)
first_field s name None there h = subst (λ (o : Option (List Field)).
    MatchOption o (Unit {0}) (λ fs. AreNotNamed fs name)) (sym there) h
first_field s name (Some number) there h = subst (λ (o : Option (List Field)).
    MatchOption o ⊥ (λ fs. IsFirstNamed fs name number)) (sym there) h
