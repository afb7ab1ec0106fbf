use Rattle.std.proofs.Common.{true≢false, arith, length, rules, refl, sym, ◌∙◌, inl, inr}
use Rattle.std.proofs.lemmas.Option.{slice_get_read}
use Rattle.gob_value.specs.declared.value.Value.{the_lemmas}
use Rattle.gob_value.specs.View.{view}
use Rattle.gob_value.proofs.PublicLaws.{IsNoList, IsNoMap, IsNoStruct}
use Rattle.gob_match.proofs.ReceiveLaws.{present_shallow}
use Rattle.gob_match.proofs.ReceiveSteps.{each_shallow, list_depth, map_depth, pair_shallow, struct_depth}
use Rattle.gob_left_out.proofs.NoteLaws.{meets_all, meets_behind, meets_both, meets_first, meets_more, met_ok, step_back}
use Rattle.gob_left_out.proofs.PartLaws.{present_at}
use Rattle.gob_left_out.proofs.WalkLaws.{has_shapes, leaf_met, list_met, map_met, match_elements, match_keys, match_values}
use Rattle.gob_left_out.proofs.WalkLaws.{none_of_no_list, none_of_no_map, none_of_no_struct, none_of_nothing, struct_met}
use Rattle.gob_left_out.proofs.WalkLaws.{match_field, named_as, no_field, part_met, structs_match, unnamed_as}
use Rattle.gob_left_out.proofs.WalkLaws.{whole_met}
use Rattle.gob_left_out.proofs.walk.+walk.Goals as goal

-- ---- elements
pub walk_elements-loop-part-init : goal.walk_elements-loop-part-init
walk_elements-loop-part-init g t c = meets_first

pub walk_elements-walk_behind-requires : goal.walk_elements-walk_behind-requires
walk_elements-walk_behind-requires g t c κs within =
    let parts = c.args.parts.now in
    let there = slice_get_read parts (length parts) c.loop-part.part-index c.part-item.result refl c.loop-part-test.true
    c.part-item.is in
    let shallow = each_shallow parts c.loop-part.part-index there in
    (omega arith, (within.0, (within.1, c.requires)))

pub walk_elements-loop-part-preserved : goal.walk_elements-loop-part-preserved
walk_elements-loop-part-preserved g t c =
    let parts = c.args.parts.now in
    let there = slice_get_read parts (length parts) c.loop-part.part-index c.part-item.result refl c.loop-part-test.true
    c.part-item.is in
    meets_more c.loop-part.invariant there c.in_ok-walk_behind.ensures

pub walk_elements-returns : goal.walk_elements-returns
walk_elements-returns g t c = meets_all c.loop-part.part-index c.loop-part.invariant c.loop-part-test.false

-- ---- keys and elements
pub walk_entries-loop-k-init : goal.walk_entries-loop-k-init
walk_entries-loop-k-init g t c = meets_first

pub walk_entries-walk_behind-requires : goal.walk_entries-walk_behind-requires
walk_entries-walk_behind-requires g t c κs within =
    let parts = c.args.parts.now in
    let there = slice_get_read parts (length parts) c.loop-k.k-index c.loop-k-item.result refl c.loop-k-test.true
    c.loop-k-item.is in
    let shallow = (pair_shallow parts c.loop-k.k-index there).0 in
    (omega arith, (within.0, (within.1, c.requires.of_keys)))

pub walk_entries-walk_behind-requires-in-loop-k : goal.walk_entries-walk_behind-requires-in-loop-k
walk_entries-walk_behind-requires-in-loop-k g t c κs within =
    let parts = c.args.parts.now in
    let there = slice_get_read parts (length parts) c.loop-k.k-index c.loop-k-item.result refl c.loop-k-test.true
    c.loop-k-item.is in
    let shallow = (pair_shallow parts c.loop-k.k-index there).1 in
    (omega arith, (within.0, (within.1, c.requires.of_elements)))

pub walk_entries-loop-k-preserved : goal.walk_entries-loop-k-preserved
walk_entries-loop-k-preserved g t c =
    let parts = c.args.parts.now in
    let there = slice_get_read parts (length parts) c.loop-k.k-index c.loop-k-item.result refl c.loop-k-test.true
    c.loop-k-item.is in
    meets_more c.loop-k.invariant there (meets_both c.in_ok-walk_behind.ensures c.in_ok-walk_behind-2.ensures
    (λ path x h. inl h) (λ path x h. inr h) (λ path x h. h))

pub walk_entries-returns : goal.walk_entries-returns
walk_entries-returns g t c = meets_all c.loop-k.k-index c.loop-k.invariant c.loop-k-test.false

-- ---- fields
pub walk_fields-loop-part-init : goal.walk_fields-loop-part-init
walk_fields-loop-part-init g t c = meets_first

pub walk_fields-walk_field-requires : goal.walk_fields-walk_field-requires
walk_fields-walk_field-requires g t c κs within =
    let parts = c.args.parts.now in
    let there = slice_get_read parts (length parts) c.loop-part.part-index c.part-item.result refl c.loop-part-test.true
    c.part-item.is in
    let shallow = present_shallow (present_at parts c.loop-part.part-index there) in
    (omega arith, (within.0, (within.1, c.requires)))

pub walk_fields-loop-part-preserved : goal.walk_fields-loop-part-preserved
walk_fields-loop-part-preserved g t c =
    let parts = c.args.parts.now in
    let there = slice_get_read parts (length parts) c.loop-part.part-index c.part-item.result refl c.loop-part-test.true
    c.part-item.is in
    meets_more c.loop-part.invariant there c.in_ok-walk_field.ensures

pub walk_fields-returns : goal.walk_fields-returns
walk_fields-returns g t c = meets_all c.loop-part.part-index c.loop-part.invariant c.loop-part-test.false

-- ---- values
pub walk_value-parts_of-requires : goal.walk_value-parts_of-requires
walk_value-parts_of-requires g t c = has_shapes c.requires

pub walk_value-walk_elements-requires : goal.walk_value-walk_elements-requires
walk_value-walk_elements-requires g t c κs within =
    let d = list_depth c.in-Many.parts c.in-Many.is c.deref.ensures.value in
    (omega arith, (within.0, (within.1, match_elements c.parts_of.ensures c.in-Elements.is c.requires)))

pub walk_value-walk_entries-requires : goal.walk_value-walk_entries-requires
walk_value-walk_entries-requires g t c κs within =
    let d = map_depth c.in-Pairs.parts c.in-Pairs.is c.deref-in-Pairs.ensures.value in (
      omega arith,
      (
        within.0,
        (
          within.1,
          (
            match_keys c.parts_of.ensures c.in-Entries.is c.requires,
            match_values c.parts_of.ensures c.in-Entries.is c.requires,
          ),
        ),
      ),
    )

pub walk_value-walk_fields-requires : goal.walk_value-walk_fields-requires
walk_value-walk_fields-requires g t c κs within =
    let d = struct_depth c.in-Fields-value.parts c.in-Fields-value.is c.deref-in-Fields-value.ensures.value in
    (omega arith, (within.0, (within.1, structs_match c.parts_of.ensures c.in-Fields.is c.requires)))

pub walk_value-returns-in-Nothing : goal.walk_value-returns-in-Nothing
walk_value-returns-in-Nothing g t c = none_of_nothing c.parts_of.ensures c.in-Nothing.is

pub walk_value-returns-in_default : goal.walk_value-returns-in_default
walk_value-returns-in_default g t c =
    let n : IsNoList (view c.args.value.now) = search (rules, the_lemmas) in
    none_of_no_list c.parts_of.ensures c.in-Elements.is n

pub walk_value-returns-in_default-value : goal.walk_value-returns-in_default-value
walk_value-returns-in_default-value g t c =
    let n : IsNoMap (view c.args.value.now) = search (rules, the_lemmas) in
    none_of_no_map c.parts_of.ensures c.in-Entries.is n

pub walk_value-returns-in_default-value-2 : goal.walk_value-returns-in_default-value-2
walk_value-returns-in_default-value-2 g t c =
    let n : IsNoStruct (view c.args.value.now) = search (rules, the_lemmas) in
    none_of_no_struct c.parts_of.ensures c.in-Fields.is n

pub walk_value-returns-in-Many : goal.walk_value-returns-in-Many
walk_value-returns-in-Many g t c = met_ok c.walk_elements.result c.walk_elements.ensures
    (list_met c.parts_of.ensures c.in-Elements.is c.in-Many.parts c.in-Many.is c.deref.ensures.value)

pub walk_value-returns-in-Pairs : goal.walk_value-returns-in-Pairs
walk_value-returns-in-Pairs g t c = met_ok c.walk_entries.result c.walk_entries.ensures
    (map_met c.parts_of.ensures c.in-Entries.is c.in-Pairs.parts c.in-Pairs.is c.deref-in-Pairs.ensures.value)

pub walk_value-returns-in-Fields-value : goal.walk_value-returns-in-Fields-value
walk_value-returns-in-Fields-value g t c = met_ok c.walk_fields.result c.walk_fields.ensures
    (struct_met c.parts_of.ensures c.in-Fields.is c.in-Fields-value.parts c.in-Fields-value.is
    c.deref-in-Fields-value.ensures.value)

-- ---- a step
pub walk_behind-returns : goal.walk_behind-returns
walk_behind-returns g t c =
    meets_behind c.in_ok-push.ensures.items refl c.in_ok-walk_value.ensures
    (step_back c.args.met.now.trail.items c.args.step
    (c.in_ok-walk_value.ensures.trail ∙ c.in_ok-push.ensures.items) c.walk_value.new.met.trail.ok.0 c.pop.ensures.rest)
    refl

-- ---- one field
pub walk_field-returns-in_default : goal.walk_field-returns-in_default
walk_field-returns-in_default g t c =
    no_field c.requires c.args.part.now.0 (view c.args.part.now.1) (sym c.in_default.ensures.found)

pub walk_field-returns-in_default-type_named : goal.walk_field-returns-in_default-type_named
walk_field-returns-in_default-type_named g t c =
    let there = sym c.in-Some.ensures.found in
    met_ok c.note.result c.note.ensures (λ n. whole_met c.requires c.args.part.now.0 (view c.args.part.now.1) there
    (unnamed_as c.as_slice.ensures c.as_bytes.ensures c.in_default-type_named.ensures) c.deref.ensures.value refl n)

pub walk_field-walk_behind-requires : goal.walk_field-walk_behind-requires
walk_field-walk_behind-requires g t c κs within = (
  omega arith,
  (
    within.0,
    (
      within.1,
      match_field c.requires c.args.part.now.0 (sym c.in-Some.ensures.found)
          (named_as c.as_slice.ensures c.as_bytes.ensures c.in-Some-type_named.ensures),
    ),
  ),
)

pub walk_field-returns : goal.walk_field-returns
walk_field-returns g t c = met_ok c.walk_behind.result c.walk_behind.ensures
    (λ m. part_met c.requires c.args.part.now.0 (view c.args.part.now.1) (sym c.in-Some.ensures.found)
    (named_as c.as_slice.ensures c.as_bytes.ensures c.in-Some-type_named.ensures) (rw c.in_ok-step.ensures at m))

pub walk_field-returns-then-not-has_parts : goal.walk_field-returns-then-not-has_parts
walk_field-returns-then-not-has_parts g t c =
    leaf_met c.requires c.args.part.now.0 (view c.args.part.now.1) (sym c.in-Some.ensures.found)
    (named_as c.as_slice.ensures c.as_bytes.ensures c.in-Some-type_named.ensures)
    (λ h. true≢false (sym (c.has_parts.ensures.1 h) ∙ c.if-not-has_parts.true))
