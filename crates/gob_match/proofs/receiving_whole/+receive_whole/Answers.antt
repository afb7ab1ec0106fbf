-- Each step's answer is a lemma on the bytes that it takes and appends.
use Rattle.std.proofs.Common.{◌≡◌, ℕ, ◌+◌, ◌*◌, ◌-◌, ◌<◌, ◌≤◌, drop, length, Some, arith, refl, sym, subst}
use Rattle.std.specs.Prelude.{slice_get}
use Rattle.std.proofs.lemmas.Option.{slice_get_read, slice_get_within}
use native.Mathlib.Nat.{sub-zero}
use Rattle.gob_value.proofs.PublicLaws.{all_three, both, seen}
use Rattle.gob_match.specs.Machine.ReceivingWhole.{GivesCommon, HasPlace, LacksPlace, PlacesRise, RiseFrom, Skips}
use Rattle.gob_match.proofs.Loops.{drop_all, drop_at}
use Rattle.gob_match.proofs.WholeReceived.{common_absent, common_end, common_given, has_inside, places_rise}
use Rattle.gob_match.proofs.WholeReceived.{reordered_given, standing}
use Rattle.gob_match.specs.Calls.Matched.{stream_of, wanted_types_of}
use Rattle.gob_match.proofs.WholeReceived.{element_given, elements_lead, entries_lead, entry_given, field_given}
use Rattle.gob_match.proofs.WholeReceived.{field_skipped, fields_end_given, keys_lead, kind_of_fields}
use Rattle.gob_match.proofs.WholeReceived.{fields_lead, if_some, leaf_given, leaves_given, list_given, list_typed}
use Rattle.gob_match.proofs.WholeReceived.{map_given, map_typed, no_entries_given, none_given, rise_past, stands_typed}
use Rattle.gob_match.proofs.WholeReceived.{struct_typed}
use Rattle.gob_match.proofs.receiving_whole.+receive_whole.Goals as goal

-- the measures of what is called are less
typed_inside : {t : ℕ} (d : ℕ) → 3 * d + 1 ≡ t → 3 * d < t
typed_inside d e = omega arith

each_inside : {t : ℕ} (d : ℕ) → 3 * d + 2 ≡ t → 3 * d + 1 < t
each_inside d e = omega arith

list_inside : {t : ℕ} (d : ℕ) → 3 * d ≡ t → ¬ (d ≡ 0) → 3 * (d - 1) + 2 < t
list_inside d e n = omega arith

parts_inside : {t : ℕ} (d : ℕ) → 3 * d ≡ t → ¬ (d ≡ 0) → 3 * (d - 1) + 1 < t
parts_inside d e n = omega arith

shallow : {d m : ℕ} → d ≤ m → d - 1 ≤ m
shallow l = omega arith

some_depth : {d : ℕ} → ¬ (d ≡ 0) → 0 < d
some_depth n = omega arith

-- what is left behind a later place is less
further : {n a b c : ℕ} → a < b → b ≤ c → c ≤ n → n - c < n - a
further p q r = omega arith

pub receive_each-returns-in-Unchanged : goal.receive_each-returns-in-Unchanged
receive_each-returns-in-Unchanged g t c =
    if_some c.copy_each.result (λ end s. leaves_given c.in-Unchanged.is c.conversion_of.ensures _ _ end s)
    c.copy_each.ensures

pub receive_each-elements-init : goal.receive_each-elements-init
receive_each-elements-init g t c = record { inside = c.requires.place; parts = λ end new s. rw sub-zero at s }

pub receive_each-receive_typed-requires : goal.receive_each-receive_typed-requires
receive_each-receive_typed-requires g t c κs within = (
  typed_inside _ c.decreases,
  (within.0, (within.1, (c.requires.pair, (c.requires.depth, c.elements.invariant.inside)))),
)

pub receive_each-elements-preserved : goal.receive_each-elements-preserved
receive_each-elements-preserved g t c = record {
  inside = c.in_ok-at.ensures.inside;
  parts = λ end new s. c.elements.invariant.parts end new (both c.in_ok-at.ensures s
      (element_given _ _ _ _ _ _ _ _ new (omega arith)));
}

pub receive_each-returns : goal.receive_each-returns
receive_each-returns g t c = c.elements.invariant.parts c.elements.at _
    (none_given _ _ _ _ _ _ _ _ (omega arith) c.elements.invariant.inside)

pub receive_list-receive_each-requires : goal.receive_list-receive_each-requires
receive_list-receive_each-requires g t c κs within = (
  each_inside _ c.decreases,
  (within.0, (within.1, (c.requires.pair, (c.requires.depth, c.in_ok-count.ensures.stands.inside)))),
)

pub receive_list-returns : goal.receive_list-returns
receive_list-returns g t c =
    if_some c.receive_each.result (λ end s. both c.in_ok-count.ensures.stands s
    (list_given _ _ _ _ _ _ _ _ _ (c.admits.ensures c.if-not-admits.false) c.in_ok-put_number.ensures))
    c.receive_each.ensures

pub receive_map-entries-init : goal.receive_map-entries-init
receive_map-entries-init g t c = record {
  inside = c.in_ok-count.ensures.stands.inside;
  parts = λ end new s. rw sub-zero at s;
}

pub receive_map-receive_typed-requires : goal.receive_map-receive_typed-requires
receive_map-receive_typed-requires g t c κs within = (
  typed_inside _ c.decreases,
  (within.0, (within.1, (c.requires.key, (c.requires.depth, c.entries.invariant.inside)))),
)

pub receive_map-receive_typed-requires-in-entries : goal.receive_map-receive_typed-requires-in-entries
receive_map-receive_typed-requires-in-entries g t c κs within = (
  typed_inside _ c.decreases,
  (within.0, (within.1, (c.requires.elem, (c.requires.depth, c.in_ok-behind.ensures.inside)))),
)

pub receive_map-entries-preserved : goal.receive_map-entries-preserved
receive_map-entries-preserved g t c = record {
  inside = c.in_ok-at.ensures.inside;
  parts = λ end new s. c.entries.invariant.parts end new (all_three c.in_ok-behind.ensures c.in_ok-at.ensures s
      (entry_given _ _ _ _ _ _ _ _ _ _ new (omega arith)));
}

pub receive_map-returns : goal.receive_map-returns
receive_map-returns g t c =
    both c.in_ok-count.ensures.stands
    (c.entries.invariant.parts c.entries.at _ (no_entries_given _ _ _ _ _ _ _ _ _ (omega arith)
    c.entries.invariant.inside))
    (map_given _ _ _ _ _ _ _ _ _ c.in_ok-put_number.ensures)

pub receive_in_order-fields-init : goal.receive_in_order-fields-init
receive_in_order-fields-init g t c = record {
  inside = c.requires.place;
  rises = c.requires.rise;
  parts = λ end new s. s;
}

pub receive_in_order-returns-then-delta-eq0 : goal.receive_in_order-returns-then-delta-eq0
receive_in_order-returns-then-delta-eq0 g t c =
    c.fields.invariant.parts c.in_ok-delta.behind _ (seen c.in_ok-delta.ensures.stands
    (fields_end_given _ _ _ _ _ _ _ _ _ _ (omega arith) c.in_ok-put_number.ensures))

pub receive_in_order-fields-smaller-in_default : goal.receive_in_order-fields-smaller-in_default
receive_in_order-fields-smaller-in_default g t c = further c.in_ok-delta.ensures.onward c.in_ok-at.ensures.order
    c.in_ok-at.ensures.inside

pub receive_in_order-fields-preserved-in_default : goal.receive_in_order-fields-preserved-in_default
receive_in_order-fields-preserved-in_default g t c =
    let common = c.args.common.now in
    let number = c.in_ok-number.number in
    let index = c.first_from-index.result in
    let rise = rise_past number index common (c.first_from-index.ensures.rises _ c.fields.invariant.rises)
    (c.common_at.ensures.none c.in_default.is) in
    record {
      inside = c.in_ok-at.ensures.inside;
      rises = rise;
      parts = λ end new s. c.fields.invariant.parts end new
          (all_three c.in_ok-delta.ensures.stands (stands_typed _ _ _ c.in_ok-at.ensures) s
          (field_skipped _ _ _ _ _ _ number c.in_ok-own.own.now (omega arith) c.in_ok-number.ensures.found
          (sym c.in_ok-own.ensures.found) _ _ _ _ new c.first_from-index.ensures.skipped rise));
    }

pub receive_in_order-receive_typed-requires : goal.receive_in_order-receive_typed-requires
receive_in_order-receive_typed-requires g t c κs within = (
  typed_inside _ c.decreases,
  (
    within.0,
    (
      within.1,
      (
        (c.requires.fields c.first_from-index.result c.in-Some.field.now c.in-Some.ensures.found.0).pair,
        (c.requires.depth, c.in_ok-delta.ensures.stands.inside),
      ),
    ),
  ),
)

pub receive_in_order-overflow_add-wanted : goal.receive_in_order-overflow_add-wanted
receive_in_order-overflow_add-wanted g t c =
    let small = (c.requires.fields c.first_from-index.result c.in-Some.field.now
    c.in-Some.ensures.found.0).small in omega arith

pub receive_in_order-overflow_add-index : goal.receive_in_order-overflow_add-index
receive_in_order-overflow_add-index g t c = let below = slice_get_within c.args.common.now c.first_from-index.result
    c.in-Some.field.now c.in-Some.ensures.found.0 in omega arith

pub receive_in_order-fields-smaller : goal.receive_in_order-fields-smaller
receive_in_order-fields-smaller g t c = further c.in_ok-delta.ensures.onward c.in_ok-at-2.ensures.order
    c.in_ok-at-2.ensures.inside

pub receive_in_order-fields-preserved : goal.receive_in_order-fields-preserved
receive_in_order-fields-preserved g t c =
    let common = c.args.common.now in
    let number = c.in_ok-number.number in
    let index = c.first_from-index.result in
    let field = c.in-Some.field.now in
    let there = c.in-Some.ensures.found.0 in
    let same = c.in-Some.ensures.found.1 in
    let of = c.requires.fields index field there in
    let next = drop_at common index field there in
    let rise = subst (RiseFrom number) next (c.first_from-index.ensures.rises _ c.fields.invariant.rises) in
    record {
      inside = c.in_ok-at-2.ensures.inside;
      rises = subst (λ n. RiseFrom (n + 1) (drop (index + 1) common)) same rise.1;
      parts = λ end new s. c.fields.invariant.parts end new
          (all_three c.in_ok-delta.ensures.stands c.in_ok-at-2.ensures s
          (field_given _ _ _ _ _ _ number of.type (omega arith) c.in_ok-number.ensures.found
          (subst (λ n. slice_get c.args.types.now n ≡ Some of.type) same of.there) field _ _ _ _ _ _ new of.typed
          (subst (Skips number (drop c.fields.index common)) next c.first_from-index.ensures.skipped) rise same
          c.in_ok-put_delta.ensures.0 of.small c.in_ok-put_delta.ensures.1));
    }

pub receive_typed-receive_list-requires : goal.receive_typed-receive_list-requires
receive_typed-receive_list-requires g t c κs within = (
  list_inside _ c.decreases c.if-part-eq0.false,
  (
    within.0,
    (
      within.1,
      (
        elements_lead c.requires.pair c.conversion_of.ensures c.in-Elements.is,
        (shallow c.requires.depth, c.requires.place),
      ),
    ),
  ),
)

pub receive_typed-receive_map-requires : goal.receive_typed-receive_map-requires
receive_typed-receive_map-requires g t c κs within = (
  parts_inside _ c.decreases c.if-part-eq0.false,
  (
    within.0,
    (
      within.1,
      (
        keys_lead c.requires.pair c.conversion_of.ensures c.in-Entries.is,
        (
          entries_lead c.requires.pair c.conversion_of.ensures c.in-Entries.is,
          (shallow c.requires.depth, c.requires.place),
        ),
      ),
    ),
  ),
)

pub receive_typed-receive_struct-requires : goal.receive_typed-receive_struct-requires
receive_typed-receive_struct-requires g t c κs within = (
  list_inside _ c.decreases c.if-part-eq0.false,
  (
    within.0,
    (
      within.1,
      (
        fields_lead c.in-Fields.is c.deref.ensures.value c.requires.pair c.conversion_of.ensures
            (sym c.in_ok-shape_of-in-Fields.ensures) (kind_of_fields _ _ c.in_ok-types-in-Fields.ensures),
        (shallow c.requires.depth, c.requires.place),
      ),
    ),
  ),
)

pub receive_typed-returns-in-Unchanged : goal.receive_typed-returns-in-Unchanged
receive_typed-returns-in-Unchanged g t c =
    if_some c.copy_each.result (λ end s. leaf_given c.in-Unchanged.is c.conversion_of.ensures _ _ end s)
    c.copy_each.ensures

pub receive_typed-returns-in_ok-size-in-Elements : goal.receive_typed-returns-in_ok-size-in-Elements
receive_typed-returns-in_ok-size-in-Elements g t c =
    if_some c.receive_list.result (λ end s. seen s (λ x y q. list_typed _ (some_depth c.if-part-eq0.false)
    c.conversion_of.ensures _ _ x y c.in-Elements.is c.in_ok-size-in-Elements.ensures q)) c.receive_list.ensures

pub receive_typed-returns-in-Entries : goal.receive_typed-returns-in-Entries
receive_typed-returns-in-Entries g t c =
    if_some c.receive_map.result (λ end s. seen s (λ x y q. map_typed _ (some_depth c.if-part-eq0.false)
    c.conversion_of.ensures _ _ x y c.in-Entries.is q)) c.receive_map.ensures

pub receive_typed-returns-in_ok-types-in-Fields : goal.receive_typed-returns-in_ok-types-in-Fields
receive_typed-returns-in_ok-types-in-Fields g t c =
    if_some c.receive_struct.result (λ end s. seen s (λ x y q. struct_typed _ (some_depth c.if-part-eq0.false)
    c.conversion_of.ensures _ _ x y c.in-Fields.is c.deref.ensures.value (sym c.in_ok-shape_of-in-Fields.ensures)
    (kind_of_fields _ _ c.in_ok-types-in-Fields.ensures) q)) c.receive_struct.ensures

pub receive_struct-receive_in_order-requires : goal.receive_struct-receive_in_order-requires
receive_struct-receive_in_order-requires g t c κs within = (
  each_inside _ c.decreases,
  (
    within.0,
    (
      within.1,
      (
        c.requires.fields,
        (
          c.rise.ensures c.if-rise.true,
          (c.requires.depth, c.requires.place),
        ),
      ),
    ),
  ),
)

pub receive_struct-receive_reordered-requires : goal.receive_struct-receive_reordered-requires
receive_struct-receive_reordered-requires g t c κs within =
    (each_inside _ c.decreases, (within.0, (within.1, (c.requires.fields, (c.requires.depth, c.requires.place)))))

pub receive_reordered-place_of-requires : goal.receive_reordered-place_of-requires
receive_reordered-place_of-requires g t c =
    let s = standing c.in_ok-end.ensures c.new-places.ensures.items in
    subst PlacesRise (sym c.deref.ensures.value) (places_rise s.spelled s.stand)

pub receive_reordered-loop-field-preserved-in_default : goal.receive_reordered-loop-field-preserved-in_default
receive_reordered-loop-field-preserved-in_default g t c = λ values stand new r.
    let common = c.args.common.now in
    let index = c.loop-field.field-index in
    let field = c.field-item.result in
    let there = slice_get_read common (length common) index field refl c.loop-field-test.true c.field-item.is in
    let T = g.S.Shapes.table (stream_of c.args.matched.now) in
    let U = g.T.Shapes.table (wanted_types_of c.args.matched.now) in
    let lacks = subst (λ l. LacksPlace l field.stream) c.deref.ensures.value
    (c.place_of.ensures.none c.in_default.is) in
    c.loop-field.invariant values stand new
    (subst (λ l. GivesCommon T U values l c.loop-field.wanted c.loop-field.out.items new)
    (sym (drop_at common index field there)) (common_absent values stand field lacks r))

pub receive_reordered-receive_typed-requires : goal.receive_reordered-receive_typed-requires
receive_reordered-receive_typed-requires g t c κs within =
    let common = c.args.common.now in
    let index = c.loop-field.field-index in
    let field = c.field-item.result in
    let there = slice_get_read common (length common) index field refl c.loop-field-test.true c.field-item.is in
    let s = standing c.in_ok-end.ensures c.new-places.ensures.items in
    let has = subst (λ l. HasPlace l field.stream c.in-Some.at) c.deref.ensures.value c.in-Some.ensures.found in (
      typed_inside _ c.decreases,
      (
        within.0,
        (
          within.1,
          (
            (c.requires.fields index field there).pair,
            (c.requires.depth, has_inside s has),
          ),
        ),
      ),
    )

pub receive_reordered-loop-field-preserved : goal.receive_reordered-loop-field-preserved
receive_reordered-loop-field-preserved g t c = λ values stand new r.
    let common = c.args.common.now in
    let index = c.loop-field.field-index in
    let field = c.field-item.result in
    let there = slice_get_read common (length common) index field refl c.loop-field-test.true c.field-item.is in
    let T = g.S.Shapes.table (stream_of c.args.matched.now) in
    let U = g.T.Shapes.table (wanted_types_of c.args.matched.now) in
    let has = subst (λ l. HasPlace l field.stream c.in-Some.at) c.deref.ensures.value c.in-Some.ensures.found in
    let of = c.requires.fields index field there in
    c.loop-field.invariant values stand new
    (subst (λ l. GivesCommon T U values l c.loop-field.wanted c.loop-field.out.items new)
    (sym (drop_at common index field there)) (common_given values stand field has of.there of.typed
    c.in_ok-put_delta.ensures.0 of.small c.in_ok-put_delta.ensures.1 c.in_ok-receive_typed.ensures r))

pub receive_reordered-returns : goal.receive_reordered-returns
receive_reordered-returns g t c =
    let common = c.args.common.now in
    let index = c.loop-field.field-index in
    let T = g.S.Shapes.table (stream_of c.args.matched.now) in
    let U = g.T.Shapes.table (wanted_types_of c.args.matched.now) in
    reordered_given c.in_ok-end.ensures c.new-places.ensures.items (λ values stand.
    c.loop-field.invariant values stand c.put_number.new.out.items
    (subst (λ l. GivesCommon T U values l c.loop-field.wanted c.loop-field.out.items c.put_number.new.out.items)
    (sym (drop_all index common c.loop-field-test.false)) (common_end values c.in_ok-put_number.ensures)))

pub receive_reordered-overflow_add-wanted : goal.receive_reordered-overflow_add-wanted
receive_reordered-overflow_add-wanted g t c =
    let common = c.args.common.now in
    let index = c.loop-field.field-index in
    let there = slice_get_read common (length common) index c.field-item.result refl c.loop-field-test.true
    c.field-item.is in
    let small = (c.requires.fields index c.field-item.result there).small in
    omega arith
