-- Each step's answer is a lemma on the bytes that it takes and appends.
use Rattle.std.proofs.Common.{◌≡◌, ℕ, ◌+◌, ◌*◌, ◌-◌, ◌<◌, ◌≤◌, arith, refl, sym}
use native.Mathlib.Nat.{sub-zero}
use Rattle.gob_value.proofs.PublicLaws.{all_three, both, seen}
use Rattle.gob_tidy.proofs.WholeTidied.{array_given, element_given, entry_given, field_dropped, field_kept}
use Rattle.gob_tidy.proofs.WholeTidied.{fields_end_given, if_some, kept_there, leaf_given, leaf_kind, leaves_given}
use Rattle.gob_tidy.proofs.WholeTidied.{list_given, map_given, map_is_given, no_entries_given, none_given, slice_given}
use Rattle.gob_tidy.proofs.WholeTidied.{struct_given}
use Rattle.gob_tidy.proofs.tidying.+tidy_whole.Goals as goal

-- the measures of what is called are less
value_inside : {t : ℕ} (d : ℕ) → 3 * d + 1 ≡ t → 3 * d < t
value_inside d e = omega arith

each_inside : {t : ℕ} (d : ℕ) → 3 * d + 2 ≡ t → 3 * d + 1 < t
each_inside d e = omega arith

list_inside : {t : ℕ} (d : ℕ) → 3 * d ≡ t → ¬ (d ≡ 0) → 3 * (d - 1) + 2 < t
list_inside d e n = omega arith

parts_inside : {t : ℕ} (d : ℕ) → 3 * d ≡ t → ¬ (d ≡ 0) → 3 * (d - 1) + 1 < t
parts_inside d e n = omega arith

shallow : {d m : ℕ} → d ≤ m → d - 1 ≤ m
shallow l = omega arith

some_depth : {d : ℕ} → ¬ (d ≡ 0) → 0 < d
some_depth n = omega arith

-- what is left behind a later place is less
further : {n a b c : ℕ} → a < b → b ≤ c → c ≤ n → n - c < n - a
further p q r = omega arith

-- ---- elements

pub tidy_each-returns-then-is_leaf : goal.tidy_each-returns-then-is_leaf
tidy_each-returns-then-is_leaf g t c =
    if_some c.copy_each.result (λ end s. leaves_given (sym c.in_ok-shape.ensures)
    (c.is_leaf.ensures c.if-is_leaf.true) _ _ _ refl _ _ end s) c.copy_each.ensures

pub tidy_each-elements-init : goal.tidy_each-elements-init
tidy_each-elements-init g t c = record { inside = c.requires.place; parts = λ end new s. rw sub-zero at s }

pub tidy_each-tidy_value-requires : goal.tidy_each-tidy_value-requires
tidy_each-tidy_value-requires g t c κs within =
    (value_inside _ c.decreases, (within, (c.requires.depth, c.elements.invariant.inside)))

pub tidy_each-elements-preserved : goal.tidy_each-elements-preserved
tidy_each-elements-preserved g t c = record {
  inside = c.in_ok-at.ensures.inside;
  parts = λ end new s. c.elements.invariant.parts end new (both c.in_ok-at.ensures s
      (element_given _ _ _ _ _ _ _ _ _ new (omega arith)));
}

pub tidy_each-returns : goal.tidy_each-returns
tidy_each-returns g t c = c.elements.invariant.parts c.elements.at _
    (none_given _ _ _ _ _ _ _ _ _ (omega arith) c.elements.invariant.inside)

pub tidy_list-tidy_each-requires : goal.tidy_list-tidy_each-requires
tidy_list-tidy_each-requires g t c κs within =
    (each_inside _ c.decreases, (within, (c.requires.depth, c.in_ok-count.ensures.inside)))

pub tidy_list-returns : goal.tidy_list-returns
tidy_list-returns g t c =
    if_some c.tidy_each.result (λ end s. both c.in_ok-count.ensures s
    (list_given _ _ _ _ _ _ _ _ _ _ (c.admits.ensures c.if-not-admits.false) refl)) c.tidy_each.ensures

-- ---- entries

pub tidy_map-entries-init : goal.tidy_map-entries-init
tidy_map-entries-init g t c = record {
  inside = c.in_ok-count.ensures.inside;
  parts = λ end new s. rw sub-zero at s;
}

pub tidy_map-tidy_value-requires : goal.tidy_map-tidy_value-requires
tidy_map-tidy_value-requires g t c κs within =
    (value_inside _ c.decreases, (within, (c.requires.depth, c.entries.invariant.inside)))

pub tidy_map-tidy_value-requires-in-entries : goal.tidy_map-tidy_value-requires-in-entries
tidy_map-tidy_value-requires-in-entries g t c κs within =
    (value_inside _ c.decreases, (within, (c.requires.depth, c.in_ok-behind.ensures.inside)))

pub tidy_map-entries-preserved : goal.tidy_map-entries-preserved
tidy_map-entries-preserved g t c = record {
  inside = c.in_ok-at.ensures.inside;
  parts = λ end new s. c.entries.invariant.parts end new (all_three c.in_ok-behind.ensures c.in_ok-at.ensures s
      (entry_given _ _ _ _ _ _ _ _ _ _ _ new (omega arith)));
}

pub tidy_map-returns : goal.tidy_map-returns
tidy_map-returns g t c =
    both c.in_ok-count.ensures
    (c.entries.invariant.parts c.entries.at _ (no_entries_given _ _ _ _ _ _ _ _ _ _ (omega arith)
    c.entries.invariant.inside))
    (map_given _ _ _ _ _ _ _ _ _ _ refl)

-- ---- fields

pub tidy_fields-fields-init : goal.tidy_fields-fields-init
tidy_fields-fields-init g t c = record {
  inside = c.requires.place;
  ordered = omega arith;
  parts = λ end new s. s;
}

pub tidy_fields-returns-then-delta-eq0 : goal.tidy_fields-returns-then-delta-eq0
tidy_fields-returns-then-delta-eq0 g t c =
    c.fields.invariant.parts c.in_ok-delta.behind _ (seen c.in_ok-delta.ensures.stands
    (fields_end_given _ _ _ _ _ _ _ _ _ _ (omega arith) refl c.in_ok-put_number.ensures))

pub tidy_fields-fields-preserved-in-Some : goal.tidy_fields-fields-preserved-in-Some
tidy_fields-fields-preserved-in-Some g t c =
    let gone = c.in-Some.ensures.dropped (g.S.Shapes.table c.args.shapes.now) in
    record {
      inside = gone.inside;
      ordered = let o = c.fields.invariant.ordered in let is = c.in_ok-number.ensures.found in omega arith;
      parts = λ end new s. c.fields.invariant.parts end new (all_three c.in_ok-delta.ensures.stands gone s
          (field_dropped _ _ _ _ _ _ _ c.in_ok-number.number c.in_ok-field.field.now c.in_ok-shape.shape.now
          (omega arith)
          c.in_ok-number.ensures.found (sym c.in_ok-field.ensures.found) (sym c.in_ok-shape.ensures) _ _ new
          (omega arith)));
    }

pub tidy_fields-fields-preserved : goal.tidy_fields-fields-preserved
tidy_fields-fields-preserved g t c = record {
  inside = c.in_ok-at.ensures.inside;
  ordered = omega arith;
  parts = λ end new s. c.fields.invariant.parts end new
      (all_three c.in_ok-delta.ensures.stands
      (kept_there (c.dropped_end.ensures.kept c.in_default.is) c.in_ok-at.ensures) s
      (field_kept _ _ _ _ _ _ _ c.in_ok-number.number c.in_ok-field.field.now c.in_ok-shape.shape.now (omega arith)
      c.in_ok-number.ensures.found (sym c.in_ok-field.ensures.found) (sym c.in_ok-shape.ensures) _ _ _ _ new
      (let o = c.fields.invariant.ordered in let is = c.in_ok-number.ensures.found in omega arith) refl
      c.in_ok-put_number-2.ensures));
}

pub tidy_fields-fields-smaller-in-Some : goal.tidy_fields-fields-smaller-in-Some
tidy_fields-fields-smaller-in-Some g t c =
    let gone = c.in-Some.ensures.dropped (g.S.Shapes.table c.args.shapes.now) in
    further c.in_ok-delta.ensures.onward gone.order gone.inside

-- ---- values

pub tidy_value-returns-in-Basic : goal.tidy_value-returns-in-Basic
tidy_value-returns-in-Basic g t c =
    if_some c.copy_each.result
    (λ end s. leaf_given (sym c.in_ok-shape.ensures) (leaf_kind c.in-Basic.is) _ _ _ refl _ _ end s)
    c.copy_each.ensures

pub tidy_value-returns-in-Slice : goal.tidy_value-returns-in-Slice
tidy_value-returns-in-Slice g t c =
    if_some c.tidy_list.result (λ end s. seen s (λ x y q. slice_given _ _ _ (some_depth c.if-part-eq0.false)
    (sym c.in_ok-shape.ensures) _ _ x y c.in-Slice.is q)) c.tidy_list.ensures

pub tidy_value-returns-in-Array : goal.tidy_value-returns-in-Array
tidy_value-returns-in-Array g t c =
    if_some c.tidy_list-in-Array.result (λ end s. seen s (λ x y q. array_given _ _ _ (some_depth c.if-part-eq0.false)
    (sym c.in_ok-shape.ensures) _ _ x y c.in-Array.is q)) c.tidy_list-in-Array.ensures

pub tidy_value-returns-in-Map : goal.tidy_value-returns-in-Map
tidy_value-returns-in-Map g t c =
    if_some c.tidy_map.result (λ end s. seen s (λ x y q. map_is_given _ _ _ (some_depth c.if-part-eq0.false)
    (sym c.in_ok-shape.ensures) _ _ x y c.in-Map.is q)) c.tidy_map.ensures

pub tidy_value-returns-in-Struct : goal.tidy_value-returns-in-Struct
tidy_value-returns-in-Struct g t c =
    if_some c.tidy_fields.result (λ end s. seen s (λ x y q. struct_given _ _ _ (some_depth c.if-part-eq0.false)
    (sym c.in_ok-shape.ensures) _ _ x y c.in-Struct.is q)) c.tidy_fields.ensures
