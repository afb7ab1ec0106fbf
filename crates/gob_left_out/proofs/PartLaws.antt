-- Parts of a value, as the lists of the program have them.
use Rattle.std.proofs.Common.{◌≡◌, ℕ, zero, suc, List, [], ◌∷◌, Some, true≢false, is_some, refl, sym, ap, subst}
use Rattle.std.specs.Prelude.{slice_get}
use Rattle.gob_types.proofs.PublicLaws.{some_injective}
use Rattle.gob_value.specs.declared.value.Value.{Value}
use Rattle.gob_value.specs.Tree.{Tree}
use Rattle.gob_value.specs.View.{view, views, pair_views, field_views}
use Rattle.gob_match.specs.Received.{IsPresent, first as first_field, later as later_field}
use Rattle.gob_left_out.specs.LeftOut.{IsElement, first, later, IsEntry, first_entry, later_entry}

-- ---- elements
pub element_at : (vs : List Value) (k : ℕ) {v : Value} → slice_get vs k ≡ Some v → IsElement (view v) (views vs)
element_at [] k there = absurd (true≢false (sym (ap is_some there)))
element_at (x ∷ vs) zero there =
    subst (λ (v : Value). IsElement (view v) (views (x ∷ vs))) (some_injective there) first
element_at (x ∷ vs) (suc k) there = later (element_at vs k there)

pub record HasElement (vs : List Value) (w : Tree) : Type 0 where
  pub index : ℕ
  pub value : Value
  pub there : slice_get vs index ≡ Some value
  pub is : view value ≡ w

pub element_of : (vs : List Value) {w : Tree} → IsElement w (views vs) → HasElement vs w
element_of [] e = elim e [ ]
element_of (x ∷ vs) first = record { index = 0; value = x; there = refl; is = refl }
element_of (x ∷ vs) (later e) =
    let h = element_of vs e in record { index = suc h.index; value = h.value; there = h.there; is = h.is }

-- ---- keys and elements
pub entry_at : (ps : List (Value × Value)) (k : ℕ) {p : Value × Value} → slice_get ps k ≡ Some p
    → IsEntry (view p.0) (view p.1) (pair_views ps)
entry_at [] k there = absurd (true≢false (sym (ap is_some there)))
entry_at (x ∷ ps) zero there =
    subst (λ (p : Value × Value). IsEntry (view p.0) (view p.1) (pair_views (x ∷ ps))) (some_injective there)
    first_entry
entry_at (x ∷ ps) (suc k) there = later_entry (entry_at ps k there)

pub record HasEntry (ps : List (Value × Value)) (x y : Tree) : Type 0 where
  pub index : ℕ
  pub entry : Value × Value
  pub there : slice_get ps index ≡ Some entry
  pub key_is : view entry.0 ≡ x
  pub elem_is : view entry.1 ≡ y

pub entry_of : (ps : List (Value × Value)) {x y : Tree} → IsEntry x y (pair_views ps) → HasEntry ps x y
entry_of [] e = elim e [ ]
entry_of (p ∷ ps) first_entry = record { index = 0; entry = p; there = refl; key_is = refl; elem_is = refl }
entry_of (p ∷ ps) (later_entry e) =
    let h = entry_of ps e in
    record { index = suc h.index; entry = h.entry; there = h.there; key_is = h.key_is; elem_is = h.elem_is }

-- ---- fields
pub present_at : (ps : List (ℕ × Value)) (k : ℕ) {p : ℕ × Value} → slice_get ps k ≡ Some p
    → IsPresent p.0 (view p.1) (field_views ps)
present_at [] k there = absurd (true≢false (sym (ap is_some there)))
present_at (x ∷ ps) zero there =
    subst (λ (p : ℕ × Value). IsPresent p.0 (view p.1) (field_views (x ∷ ps))) (some_injective there) first_field
present_at (x ∷ ps) (suc k) there = later_field (present_at ps k there)

pub record HasField (ps : List (ℕ × Value)) (number : ℕ) (w : Tree) : Type 0 where
  pub index : ℕ
  pub part : ℕ × Value
  pub there : slice_get ps index ≡ Some part
  pub number_is : part.0 ≡ number
  pub value_is : view part.1 ≡ w

pub field_of : (ps : List (ℕ × Value)) {number : ℕ} {w : Tree} → IsPresent number w (field_views ps)
    → HasField ps number w
field_of [] e = elim e [ ]
field_of (p ∷ ps) first_field = record { index = 0; part = p; there = refl; number_is = refl; value_is = refl }
field_of (p ∷ ps) (later_field e) =
    let h = field_of ps e in
    record { index = suc h.index; part = h.part; there = h.there; number_is = h.number_is; value_is = h.value_is }
