use Rattle.std.proofs.Common.{arith, sym, subst}
use Rattle.gob_types.specs.Defined.{types}
use Rattle.gob_value.specs.Top.{IsStruct}
use Rattle.gob_value.proofs.WholeSteps.{all_three, both, if_some, seen}
use Rattle.gob_go.specs.Machine.WholeFilled.{IsOfKind}
use Rattle.gob_go.proofs.WholeFilledSteps.{array_begins, behind_a_tag, element_begins, field_begins, fields_end_here}
use Rattle.gob_go.proofs.WholeFilledSteps.{interface_begins, map_begins, no_elements_begin, no_pairs_begin}
use Rattle.gob_go.proofs.WholeFilledSteps.{pair_begins, slice_begins, struct_begins, struct_top}
use Rattle.gob_go.proofs.filled_whole.+filled.Goals as goal

pub elements_end-elements-preserved : goal.elements_end-elements-preserved
elements_end-elements-preserved t c = record {
  inside = c.in_ok-at.ensures.inside;
  parts = λ end s. c.elements.invariant.parts end (both c.in_ok-at.ensures s (element_begins _ _ _ _ (omega arith)));
}

pub elements_end-returns : goal.elements_end-returns
elements_end-returns t c =
    c.elements.invariant.parts c.elements.at (no_elements_begin _ _ _ _ _ (omega arith) c.elements.invariant.inside)

pub entries_end-pairs-preserved : goal.entries_end-pairs-preserved
entries_end-pairs-preserved t c = record {
  inside = c.in_ok-at.ensures.inside;
  parts = λ end s. c.pairs.invariant.parts end (all_three c.in_ok-behind.ensures c.in_ok-at.ensures s
      (pair_begins _ _ _ _ _ (omega arith)));
}

pub entries_end-returns : goal.entries_end-returns
entries_end-returns t c =
    c.pairs.invariant.parts c.pairs.at (no_pairs_begin _ _ _ _ _ _ (omega arith) c.pairs.invariant.inside)

pub fields_end-returns-then-delta-eq0 : goal.fields_end-returns-then-delta-eq0
fields_end-returns-then-delta-eq0 t c =
    c.fields.invariant.parts c.in_ok-delta.behind (seen c.in_ok-delta.ensures.stands
    (fields_end_here _ _ _ _ (omega arith)))

pub fields_end-fields-preserved : goal.fields_end-fields-preserved
fields_end-fields-preserved t c = record {
  inside = c.in_ok-at.ensures.inside;
  parts = λ end s. c.fields.invariant.parts end (all_three c.in_ok-delta.ensures.stands c.in_ok-at.ensures s
      (field_begins _ _ _ _ _ c.in_ok-field.field.now (omega arith) c.in_ok-number.ensures.found
      (sym c.in_ok-field.ensures.found)));
}

pub interface_end-returns-in-Some : goal.interface_end-returns-in-Some
interface_end-returns-in-Some t c =
    interface_begins c.args.depth c.requires.kind c.in_ok-held.ensures.may c.in_ok-size.ensures.stands (omega arith)
    c.in_ok-place_behind.ensures.behind c.in_ok-place_behind.ensures.inside c.in_ok-number.ensures.stands
    c.in_ok-held.ensures.number c.in_ok-size-2.ensures.stands c.in_ok-last.ensures.behind c.if-end-last.true
    c.in-Some.ensures

pub top_end-returns-in-Struct : goal.top_end-returns-in-Struct
top_end-returns-in-Struct t c =
    if_some c.value_end.result (λ end s. seen s
    (struct_top (sym c.in_ok-shape.ensures) (subst (λ k. IsStruct k) (sym c.in-Struct.is) tt))) c.value_end.ensures

pub top_end-returns : goal.top_end-returns
top_end-returns t c =
    if_some c.value_end-2.result (λ end s. behind_a_tag c.args.body.now c.args.at end (sym c.in_ok-shape.ensures)
    c.in_default.not-Struct c.if-at-body.false c.if-body-at-ne0.false s) c.value_end-2.ensures

pub value_end-returns-in-Struct : goal.value_end-returns-in-Struct
value_end-returns-in-Struct t c =
    if_some c.fields_end.result (λ end s. seen s (struct_begins _ _ _
    (subst (λ k. IsOfKind (types c.args.table.now) c.args.id k) c.in-Struct.is c.requires.kind) (omega arith)))
    c.fields_end.ensures

pub value_end-returns-in_ok-count-in-Slice : goal.value_end-returns-in_ok-count-in-Slice
value_end-returns-in_ok-count-in-Slice t c =
    if_some c.elements_end.result (λ end s. both c.in_ok-count-in-Slice.ensures.stands s (slice_begins _ _ _ _
    (subst (λ k. IsOfKind (types c.args.table.now) c.args.id k) c.in-Slice.is c.requires.kind) (omega arith)))
    c.elements_end.ensures

pub value_end-returns-else-count-len : goal.value_end-returns-else-count-len
value_end-returns-else-count-len t c =
    if_some c.elements_end-in-Array.result (λ end s. both c.in_ok-count-in-Array.ensures.stands s
    (array_begins _ _ _ _ _
    (subst (λ k. IsOfKind (types c.args.table.now) c.args.id k) c.in-Array.is c.requires.kind) (omega arith)
    (omega arith))) c.elements_end-in-Array.ensures

pub value_end-returns-in_ok-count-in-Map : goal.value_end-returns-in_ok-count-in-Map
value_end-returns-in_ok-count-in-Map t c =
    if_some c.entries_end.result (λ end s. both c.in_ok-count-in-Map.ensures.stands s (map_begins _ _ _ _ _
    (subst (λ k. IsOfKind (types c.args.table.now) c.args.id k) c.in-Map.is c.requires.kind) (omega arith)))
    c.entries_end.ensures
