use Rattle.std.proofs.Common.{Option, None, IfSome, ◌+◌, ◌*◌, ◌<◌, ◌≤◌, ◌-◌, ◌≡◌, ◌∙◌, ℕ, arith, sym, subst, true}
use Rattle.std.proofs.Common.{false, IsTrue}
use mathlib.Core.List.{not-mem-nil}
use native.Mathlib.Nat.{sub-zero}
use borrow.Author.Count.{falls}
use Rattle.gob_value.specs.Machine.Begins.{HoldsNumbers}
use Rattle.gob_value.proofs.WholeSteps.{if_some, seen, all_deeper, kept_part, both, all_three, deeper, opaque_begins}
use Rattle.gob_value.proofs.WholeSteps.{slice_begins}
use Rattle.gob_value.proofs.WholeSteps.{array_begins, map_begins, struct_begins, none_stand, element_begins}
use Rattle.gob_value.proofs.WholeSteps.{no_pairs_stand, pair_begins, fields_end, field_begins, basic_part}
use Rattle.gob_value.proofs.whole.+whole.Invariants.{is_tidy}
use Rattle.gob_value.proofs.whole.+whole.Goals as goal
use Rattle.gob_value.proofs.whole.+whole.Goals.{field_end-else-this-ne0-2-via-then-this-ne0-2+else-is_dropped_at}
use Rattle.gob_value.proofs.whole.+whole.Goals.{field_end-else-this-ne0-2-via-else-this-ne0-2}
use Rattle.gob_value.proofs.whole.+whole.Goals.{field_end-else-this-ne0-via-then-this-ne0+else-is_basic_dropped_at}
use Rattle.gob_value.proofs.whole.+whole.Goals.{field_end-else-this-ne0-via-else-this-ne0}

-- what is left behind a later place is less
further : {n a b c : ℕ} → a < b → b ≤ c → c ≤ n → n - c < n - a
further p q r = omega arith

-- of no answer anything holds
none_holds : {A : Type 0} (r : Option A) (P : A → Type 0) → r ≡ None → IfSome r P
none_holds r P e = rw e tt

some_depth : {d : ℕ} → ¬ (d ≡ 0) → 1 ≤ d
some_depth n = omega arith

-- the measures of what is called are less
value_next : {t : ℕ} (d : ℕ) → 3 * d + 2 ≡ t → 3 * d < t
value_next d e = omega arith

part_next : {t : ℕ} (d : ℕ) → 3 * d + 2 ≡ t → 3 * d + 1 < t
part_next d e = omega arith

kind_next : {t : ℕ} (d : ℕ) → 3 * d + 1 ≡ t → 3 * d < t
kind_next d e = omega arith

parts_next : {t d : ℕ} → 3 * d ≡ t → ¬ (d ≡ 0) → 3 * (d - 1) + 2 < t
parts_next e n = omega arith

shallow : {d m : ℕ} → d ≤ m → d - 1 ≤ m
shallow l = omega arith

not_asked : {n : ℕ} → n ≡ 0 → ¬ IsTrue (is_tidy n)
not_asked e tidy = let told : false ≡ true = subst (λ n. IsTrue (is_tidy n)) e tidy in cc

pub elements_end-returns-then-count-eq0 : goal.elements_end-returns-then-count-eq0
elements_end-returns-then-count-eq0 g t c = none_stand _ _ _ _ _ _ _ (omega arith) c.requires.place

pub elements_end-elements-preserved : goal.elements_end-elements-preserved
elements_end-elements-preserved g t c = record {
  inside = c.in_ok-at.ensures.inside;
  parts =
      λ end s. c.elements.invariant.parts end (both c.in_ok-at.ensures s
      (element_begins _ _ _ c.in_ok-shape.shape.now _ _ _ (sym c.in_ok-shape.ensures) (omega arith)));
}

pub elements_end-returns : goal.elements_end-returns
elements_end-returns g t c =
    c.elements.invariant.parts c.elements.at (none_stand _ _ _ _ _ _ _ (omega arith) c.elements.invariant.inside)

pub pairs_end-returns-then-count-eq0 : goal.pairs_end-returns-then-count-eq0
pairs_end-returns-then-count-eq0 g t c = no_pairs_stand _ _ _ _ _ _ _ _ (omega arith) c.requires.place

pub pairs_end-pairs-preserved : goal.pairs_end-pairs-preserved
pairs_end-pairs-preserved g t c = record {
  inside = c.in_ok-at.ensures.inside;
  parts = λ end s. c.pairs.invariant.parts end (all_three c.in_ok-behind.ensures c.in_ok-at.ensures s
      (pair_begins _ _ _ _ c.in_ok-keys.keys.now c.in_ok-elems.elems.now _ _ _ (sym c.in_ok-keys.ensures)
      (sym c.in_ok-elems.ensures) (omega arith)));
}

pub pairs_end-returns : goal.pairs_end-returns
pairs_end-returns g t c =
    c.pairs.invariant.parts c.pairs.at (no_pairs_stand _ _ _ _ _ _ _ _ (omega arith) c.pairs.invariant.inside)

pub fields_end-returns-then-delta-eq0 : goal.fields_end-returns-then-delta-eq0
fields_end-returns-then-delta-eq0 g t c =
    c.fields.invariant.parts c.in_ok-delta.behind (seen c.in_ok-delta.ensures.stands
    (fields_end _ _ _ _ _ _ (omega arith)))

pub fields_end-fields-preserved : goal.fields_end-fields-preserved
fields_end-fields-preserved g t c = record {
  inside = c.in_ok-at.ensures.inside;
  parts = λ end s. c.fields.invariant.parts end (all_three c.in_ok-delta.ensures.stands c.in_ok-at.ensures s
      (field_begins _ _ _ _ _ _ _ c.in_ok-field.field.now (omega arith) c.in_ok-number.ensures.found
      (sym c.in_ok-field.ensures.found)));
}

pub field_end-returns-else-this-ne0 : goal.field_end-returns-else-this-ne0
field_end-returns-else-this-ne0 g t c =
    if_some c.basic_end.result (λ end s. basic_part _ _ c.if-depth-gt0.true (sym c.basic_of.ensures ∙ c.in-Some.is)
    (s _ _)
    (elim c.else-this-ne0.branch [
      | field_end-else-this-ne0-via-then-this-ne0+else-is_basic_dropped_at w ↦ λ tidy. w.is_basic_dropped_at.ensures
          w.if-is_basic_dropped_at.false
      | field_end-else-this-ne0-via-else-this-ne0 w ↦ λ tidy. absurd (not_asked w.if-this-ne0.false tidy)
    ])) c.basic_end.ensures

pub value_end-returns-in-Opaque : goal.value_end-returns-in-Opaque
value_end-returns-in-Opaque g t c =
    rw c.in-Opaque.is (if_some c.raw_end.result (λ end s. seen s
    (λ x y p. deeper _ _ (omega arith) x y (opaque_begins _ _ c.in-Opaque.field-0 x y p))) c.raw_end.ensures)

pub value_end-returns-in-Struct : goal.value_end-returns-in-Struct
value_end-returns-in-Struct g t c =
    rw c.in-Struct.is (if_some c.fields_end.result (λ end s. seen s
    (struct_begins _ _ c.in-Struct.fields c.args.depth (omega arith))) c.fields_end.ensures)

pub value_end-returns-in_ok-count-in-Slice : goal.value_end-returns-in_ok-count-in-Slice
value_end-returns-in_ok-count-in-Slice g t c =
    rw c.in-Slice.is (if_some c.elements_end.result (λ end s. both c.in_ok-count-in-Slice.ensures.stands s
    (slice_begins _ _ c.in-Slice.elem c.args.depth _ (omega arith))) c.elements_end.ensures)

pub value_end-returns-else-count-len : goal.value_end-returns-else-count-len
value_end-returns-else-count-len g t c =
    rw c.in-Array.is (if_some c.elements_end-in-Array.result
    (λ end s. both c.in_ok-count-in-Array.ensures.stands s (array_begins _ _ c.in-Array.elem c.args.depth _
    c.in-Array.len (omega arith) (omega arith))) c.elements_end-in-Array.ensures)

pub value_end-returns-in_ok-count-in-Map : goal.value_end-returns-in_ok-count-in-Map
value_end-returns-in_ok-count-in-Map g t c =
    rw c.in-Map.is (if_some c.pairs_end.result (λ end s. both c.in_ok-count-in-Map.ensures.stands s
    (map_begins _ _ c.in-Map.key c.in-Map.elem c.args.depth _ (omega arith))) c.pairs_end.ensures)

pub elements_end-numbers_end-requires : goal.elements_end-numbers_end-requires
elements_end-numbers_end-requires g t c = c.requires.place

pub elements_end-basics_end-requires : goal.elements_end-basics_end-requires
elements_end-basics_end-requires g t c = c.requires.place

pub field_end-basic_end-requires : goal.field_end-basic_end-requires
field_end-basic_end-requires g t c = c.requires.place

pub part_end-basic_end-requires : goal.part_end-basic_end-requires
part_end-basic_end-requires g t c = c.requires.place

pub value_end-basic_end-requires : goal.value_end-basic_end-requires
value_end-basic_end-requires g t c = c.requires.place

pub value_end-raw_end-requires : goal.value_end-raw_end-requires
value_end-raw_end-requires g t c = c.requires.place

pub elements_end-elements-init : goal.elements_end-elements-init
elements_end-elements-init g t c = record { inside = c.requires.place; parts = λ end s. rw sub-zero at s }

pub pairs_end-pairs-init : goal.pairs_end-pairs-init
pairs_end-pairs-init g t c = record { inside = c.requires.place; parts = λ end s. rw sub-zero at s }

pub fields_end-fields-init : goal.fields_end-fields-init
fields_end-fields-init g t c = record { inside = c.requires.place; parts = λ end s. s }

pub elements_end-elements-smaller : goal.elements_end-elements-smaller
elements_end-elements-smaller g t c = falls _ _ c.elements-test.true

pub pairs_end-pairs-smaller : goal.pairs_end-pairs-smaller
pairs_end-pairs-smaller g t c = falls _ _ c.pairs-test.true

pub fields_end-fields-smaller : goal.fields_end-fields-smaller
fields_end-fields-smaller g t c = further c.in_ok-delta.ensures.onward c.in_ok-at.ensures.order
    c.in_ok-at.ensures.inside

pub elements_end-value_end-requires : goal.elements_end-value_end-requires
elements_end-value_end-requires g t c κs within = (
  value_next _ c.decreases,
  (
    within,
    (
      λ a m. absurd (not-mem-nil m),
      (c.requires.depth, c.elements.invariant.inside),
    ),
  ),
)

pub field_end-value_end-requires : goal.field_end-value_end-requires
field_end-value_end-requires g t c κs within =
    (kind_next _ c.decreases, (within, (λ a m. absurd (not-mem-nil m), (c.requires.depth, c.requires.place))))

pub fields_end-field_end-requires : goal.fields_end-field_end-requires
fields_end-field_end-requires g t c κs within = (
  part_next _ c.decreases,
  (
    within,
    (
      λ a m. absurd (not-mem-nil m),
      (c.requires.depth, c.in_ok-delta.ensures.stands.inside),
    ),
  ),
)

pub pairs_end-part_end-requires : goal.pairs_end-part_end-requires
pairs_end-part_end-requires g t c κs within =
    (part_next _ c.decreases, (within, (λ a m. absurd (not-mem-nil m), (c.requires.depth, c.pairs.invariant.inside))))

pub pairs_end-part_end-requires-in-pairs : goal.pairs_end-part_end-requires-in-pairs
pairs_end-part_end-requires-in-pairs g t c κs within = (
  part_next _ c.decreases,
  (
    within,
    (
      λ a m. absurd (not-mem-nil m),
      (c.requires.depth, c.in_ok-behind.ensures.inside),
    ),
  ),
)

pub part_end-value_end-requires : goal.part_end-value_end-requires
part_end-value_end-requires g t c κs within =
    (kind_next _ c.decreases, (within, (λ a m. absurd (not-mem-nil m), (c.requires.depth, c.requires.place))))

pub value_end-fields_end-requires : goal.value_end-fields_end-requires
value_end-fields_end-requires g t c κs within = (
  parts_next c.decreases c.if-depth-eq0.false,
  (
    within,
    (
      λ a m. absurd (not-mem-nil m),
      (shallow c.requires.depth, c.requires.place),
    ),
  ),
)

pub value_end-elements_end-requires : goal.value_end-elements_end-requires
value_end-elements_end-requires g t c κs within = (
  parts_next c.decreases c.if-depth-eq0.false,
  (
    within,
    (
      λ a m. absurd (not-mem-nil m),
      (shallow c.requires.depth, c.in_ok-count-in-Slice.ensures.stands.inside),
    ),
  ),
)

pub value_end-elements_end-requires-in-Array : goal.value_end-elements_end-requires-in-Array
value_end-elements_end-requires-in-Array g t c κs within = (
  parts_next c.decreases c.if-depth-eq0.false,
  (
    within,
    (
      λ a m. absurd (not-mem-nil m),
      (shallow c.requires.depth, c.in_ok-count-in-Array.ensures.stands.inside),
    ),
  ),
)

pub value_end-pairs_end-requires : goal.value_end-pairs_end-requires
value_end-pairs_end-requires g t c κs within = (
  parts_next c.decreases c.if-depth-eq0.false,
  (
    within,
    (
      λ a m. absurd (not-mem-nil m),
      (shallow c.requires.depth, c.in_ok-count-in-Map.ensures.stands.inside),
    ),
  ),
)

pub elements_end-returns-in_err-shape : goal.elements_end-returns-in_err-shape
elements_end-returns-in_err-shape g t c = none_holds c.from_residual.result _ c.from_residual.ensures

pub elements_end-returns-in_err-at : goal.elements_end-returns-in_err-at
elements_end-returns-in_err-at g t c = none_holds c.from_residual-in_err-at.result _ c.from_residual-in_err-at.ensures

pub field_end-returns-in_err-shape-in_default : goal.field_end-returns-in_err-shape-in_default
field_end-returns-in_err-shape-in_default g t c = none_holds c.from_residual.result _ c.from_residual.ensures

pub fields_end-returns-in_err-delta : goal.fields_end-returns-in_err-delta
fields_end-returns-in_err-delta g t c = none_holds c.from_residual.result _ c.from_residual.ensures

pub fields_end-returns-in_err-number : goal.fields_end-returns-in_err-number
fields_end-returns-in_err-number g t c = none_holds c.from_residual-in_err-number.result _
    c.from_residual-in_err-number.ensures

pub fields_end-returns-in_err-field : goal.fields_end-returns-in_err-field
fields_end-returns-in_err-field g t c = none_holds c.from_residual-in_err-field.result _
    c.from_residual-in_err-field.ensures

pub fields_end-returns-in_err-at : goal.fields_end-returns-in_err-at
fields_end-returns-in_err-at g t c = none_holds c.from_residual-in_err-at.result _ c.from_residual-in_err-at.ensures

pub pairs_end-returns-in_err-keys : goal.pairs_end-returns-in_err-keys
pairs_end-returns-in_err-keys g t c = none_holds c.from_residual.result _ c.from_residual.ensures

pub pairs_end-returns-in_err-elems : goal.pairs_end-returns-in_err-elems
pairs_end-returns-in_err-elems g t c = none_holds c.from_residual-in_err-elems.result _
    c.from_residual-in_err-elems.ensures

pub pairs_end-returns-in_err-behind : goal.pairs_end-returns-in_err-behind
pairs_end-returns-in_err-behind g t c = none_holds c.from_residual-in_err-behind.result _
    c.from_residual-in_err-behind.ensures

pub pairs_end-returns-in_err-at : goal.pairs_end-returns-in_err-at
pairs_end-returns-in_err-at g t c = none_holds c.from_residual-in_err-at.result _ c.from_residual-in_err-at.ensures

pub value_end-returns-in_err-count-in-Slice : goal.value_end-returns-in_err-count-in-Slice
value_end-returns-in_err-count-in-Slice g t c = none_holds c.from_residual.result _ c.from_residual.ensures

pub value_end-returns-in_err-count-in-Array : goal.value_end-returns-in_err-count-in-Array
value_end-returns-in_err-count-in-Array g t c = none_holds c.from_residual-in_err-count-in-Array.result _
    c.from_residual-in_err-count-in-Array.ensures

pub value_end-returns-in_err-count-in-Map : goal.value_end-returns-in_err-count-in-Map
value_end-returns-in_err-count-in-Map g t c = none_holds c.from_residual-in_err-count-in-Map.result _
    c.from_residual-in_err-count-in-Map.ensures

pub field_end-returns-then-is_basic_dropped_at : goal.field_end-returns-then-is_basic_dropped_at
field_end-returns-then-is_basic_dropped_at g t c = tt

pub field_end-returns-then-is_dropped_at : goal.field_end-returns-then-is_dropped_at
field_end-returns-then-is_dropped_at g t c = tt

pub value_end-returns-then-depth-eq0 : goal.value_end-returns-then-depth-eq0
value_end-returns-then-depth-eq0 g t c = tt

pub value_end-returns-then-count-len : goal.value_end-returns-then-count-len
value_end-returns-then-count-len g t c = tt

pub elements_end-returns-then-are_numbers : goal.elements_end-returns-then-are_numbers
elements_end-returns-then-are_numbers g t c =
    if_some c.numbers_end.result (λ end s. seen (s _ _ _ _ (sym c.in_ok-shape.ensures)
    (subst HoldsNumbers (sym c.in-Basic.is) (c.are_numbers.ensures c.if-are_numbers.true)))
    (all_deeper _ _ _ _ _ _ c.if-depth-gt0.true)) c.numbers_end.ensures

pub elements_end-returns-in-Basic : goal.elements_end-returns-in-Basic
elements_end-returns-in-Basic g t c =
    if_some c.basics_end.result (λ end s. seen (s _ _ _ _ (sym c.in_ok-shape.ensures) c.in-Basic.is)
    (all_deeper _ _ _ _ _ _ c.if-depth-gt0.true)) c.basics_end.ensures

pub part_end-returns-in-Basic : goal.part_end-returns-in-Basic
part_end-returns-in-Basic g t c =
    rw c.in-Basic.is (if_some c.basic_end.result (λ end s. seen (s _ _)
    (deeper _ _ c.if-depth-gt0.true)) c.basic_end.ensures)

pub part_end-returns-in_default : goal.part_end-returns-in_default
part_end-returns-in_default g t c = c.value_end.ensures

pub value_end-returns-in-Basic : goal.value_end-returns-in-Basic
value_end-returns-in-Basic g t c =
    rw c.in-Basic.is (if_some c.basic_end.result (λ end s. seen (s _ _) (deeper _ _
    (some_depth c.if-depth-eq0.false))) c.basic_end.ensures)

pub field_end-returns-else-this-ne0-2 : goal.field_end-returns-else-this-ne0-2
field_end-returns-else-this-ne0-2 g t c =
    if_some c.value_end.result (λ end s. kept_part _ _ (sym c.in_ok-shape-in_default.ensures) s
    (elim c.else-this-ne0-2.branch [
      | field_end-else-this-ne0-2-via-then-this-ne0-2+else-is_dropped_at w ↦ λ tidy. w.is_dropped_at.ensures
          w.if-is_dropped_at.false
      | field_end-else-this-ne0-2-via-else-this-ne0-2 w ↦ λ tidy. absurd (not_asked w.if-this-ne0-2.false tidy)
    ])) c.value_end.ensures
