use Rattle.std.proofs.Common.{◌≡◌, ◌∙◌, ◌++◌, ◌+◌, ◌-◌, ℕ, [], List, ap, sym, subst, arith, rules}
use Rattle.std.specs.Prelude.{OnOk}
use Rattle.gob_num.specs.Spelled.{Appends}
use Rattle.gob_types.specs.declared.basic.Basic.{Basic}
use Rattle.gob_types.specs.declared.basic.Basic.TheVariants as basic
use Rattle.gob_types.specs.declared.id.TypeId.{TypeId}
use Rattle.gob_types.specs.declared.kind.Field.{Field}
use Rattle.gob_types.specs.declared.kind.Kind.TheVariants as kind
use Rattle.gob_nodes.specs.Calls.{PutsSaid, SaysInterface, SpellsHeld, known, nodes_of, pool_of, says_held, says_nil}
use Rattle.gob_nodes.specs.Says.{of_leaf, of_map, of_opaque, of_struct}
use Rattle.gob_nodes.specs.Says.{Says, SaysAs, SaysHeld, SaysLeafAt, SaysMap, SaysOpaqueAt, SaysStruct, SaysTop}
use Rattle.gob_nodes.proofs.GroupLaws.{count_not, field_is}
use Rattle.gob_nodes.proofs.GroupLaws.{list_begins, list_goes_on, list_next, list_node, list_puts, list_said}
use Rattle.gob_nodes.proofs.GroupLaws.{map_begins}
use Rattle.gob_nodes.proofs.GroupLaws.{map_goes_on, map_next, map_node, map_puts, map_said, struct_begins}
use Rattle.gob_nodes.proofs.GroupLaws.{struct_goes_on, struct_next, struct_node, struct_puts, struct_said}
use Rattle.gob_nodes.proofs.PutLaws.{array_kind, fault_ends, fault_puts, held_said, held_was_put}
use Rattle.gob_nodes.proofs.PutLaws.{own_said, struct_top, tag_ends, tag_top}
use Rattle.gob_nodes.proofs.PutLaws.{kind_said, says_put, signed_small}
use Rattle.gob_nodes.proofs.PutLaws.{slice_kind}
use Rattle.gob_nodes.proofs.StandLaws.{array_stands, held_only, held_parts, interface_stands, own_stands, own_there}
use Rattle.gob_nodes.proofs.StandLaws.{interface_as, interface_there, leaf_stands, nil_only, top_as, top_behind}
use Rattle.gob_nodes.proofs.StandLaws.{is_known, map_stands, opaque_stands, said_as, slice_stands, some_depth}
use Rattle.gob_nodes.proofs.StandLaws.{struct_stands}
use Rattle.gob_nodes.specs.declared.value.Places.{Places}
use Rattle.gob_nodes.proofs.value.+depth.Goals as goal

-- ---- elements

pub put_elements-elements-init : goal.put_elements-elements-init
put_elements-elements-init t c = record {
  goes = list_begins c.in_ok-group.ensures.begins c.in_ok-group.ensures.behind (omega arith)
      c.in_ok-write_uint.ensures.ok;
}

pub put_elements-elements-preserved : goal.put_elements-elements-preserved
put_elements-elements-preserved t c = record {
  goes = list_goes_on c.put_value.new.places c.put_value.new.out.items c.elements.invariant.goes (omega arith)
      c.in_ok-put_value.ensures.says c.in_ok-put_value.ensures.whole;
}

pub put_elements-returns-in_err-group-clause-whole : goal.put_elements-returns-in_err-group-clause-whole
put_elements-returns-in_err-group-clause-whole t c = λ count b to h.
    fault_puts c.from_residual.result c.in_err-group.field-0.0 c.begin_group.new.places to c.args.out.now.items
    c.args.out.now.items b c.from_residual.ensures.1 (λ w. list_node c.in_err-group.ensures.none h)

pub put_elements-returns-in_err-put_value-clause-whole : goal.put_elements-returns-in_err-put_value-clause-whole
put_elements-returns-in_err-put_value-clause-whole t c = λ count b to h.
    let x = list_next (c.in_ok-group.group.count - (c.elements.counter + 1)) c.elements.invariant.goes (omega arith) h
    in
    fault_puts c.from_residual-in_err-put_value.result c.in_err-put_value.field-0.0 c.put_value.new.places to
    c.args.out.now.items c.put_value.new.out.items b c.from_residual-in_err-put_value.ensures.1
    (c.in_err-put_value.ensures.whole x.1.0 x.0 x.1.1)

pub put_elements-returns-clause-says : goal.put_elements-returns-clause-says
put_elements-returns-clause-says t c =
    list_said c.end_group.result (omega arith) c.elements.invariant.goes c.end_group.ensures.ends

pub put_elements-returns-clause-whole : goal.put_elements-returns-clause-whole
put_elements-returns-clause-whole t c = λ count b to h.
    list_puts c.end_group.result (omega arith) c.elements.invariant.goes c.end_group.ensures.none h

-- ---- entries

pub put_entries-entries-init : goal.put_entries-entries-init
put_entries-entries-init t c = record {
  goes = map_begins c.in_ok-group.ensures.begins c.in_ok-group.ensures.behind (omega arith)
      c.in_ok-write_uint.ensures.ok;
}

pub put_entries-entries-preserved : goal.put_entries-entries-preserved
put_entries-entries-preserved t c = record {
  goes = map_goes_on c.put_value.new.places c.put_value-in-entries.new.places c.put_value.new.out.items
      c.put_value-in-entries.new.out.items c.entries.invariant.goes (omega arith) c.in_ok-put_value.ensures.says
      c.in_ok-put_value.ensures.whole c.in_ok-put_value-2.ensures.says c.in_ok-put_value-2.ensures.whole;
}

pub put_entries-returns-in_err-put_value-clause-whole : goal.put_entries-returns-in_err-put_value-clause-whole
put_entries-returns-in_err-put_value-clause-whole t c = λ b to h.
    let x = map_next (c.in_ok-group.group.count - (c.entries.counter + 1)) c.entries.invariant.goes (omega arith) h in
    fault_puts c.from_residual-in_err-put_value.result c.in_err-put_value.field-0.0 c.put_value.new.places to
    c.args.out.now.items c.put_value.new.out.items b c.from_residual-in_err-put_value.ensures.1
    (c.in_err-put_value.ensures.whole x.1.0 x.0 x.1.1.0)

pub put_entries-returns-in_err-put_value-2-clause-whole : goal.put_entries-returns-in_err-put_value-2-clause-whole
put_entries-returns-in_err-put_value-2-clause-whole t c = λ b to h.
    let x = map_next (c.in_ok-group.group.count - (c.entries.counter + 1)) c.entries.invariant.goes (omega arith) h in
    let T = known c.args.walk.now in
    let N = nodes_of c.args.walk.now in
    let P = pool_of c.args.walk.now in
    let y = x.1.1.1.1.0 in
    let d = x.1.1.1.0 in
    let key = c.in_ok-put_value.ensures.whole x.1.0 x.0 x.1.1.0 in
    let says = subst (λ z. Says T N P c.args.entry.elem c.args.depth z d y) (sym key.0) x.1.1.1.1.1 in
    fault_puts c.from_residual-in_err-put_value-2.result c.in_err-put_value-2.field-0.0
    c.put_value-in-entries.new.places to c.args.out.now.items c.put_value-in-entries.new.out.items b
    c.from_residual-in_err-put_value-2.ensures.1 (c.in_err-put_value-2.ensures.whole y d says)

pub put_entries-returns-in_err-group-clause-whole : goal.put_entries-returns-in_err-group-clause-whole
put_entries-returns-in_err-group-clause-whole t c = λ b to h.
    fault_puts c.from_residual.result c.in_err-group.field-0.0 c.begin_group.new.places to c.args.out.now.items
    c.args.out.now.items b c.from_residual.ensures.1 (λ w. map_node c.in_err-group.ensures.none h)

pub put_entries-returns-clause-says : goal.put_entries-returns-clause-says
put_entries-returns-clause-says t c =
    map_said c.end_group.result (omega arith) c.entries.invariant.goes c.end_group.ensures.ends

pub put_entries-returns-clause-whole : goal.put_entries-returns-clause-whole
put_entries-returns-clause-whole t c = λ b to h.
    map_puts c.end_group.result (omega arith) c.entries.invariant.goes c.end_group.ensures.none h

-- ---- fields

pub put_fields-present-init : goal.put_fields-present-init
put_fields-present-init t c = record {
  goes = struct_begins c.in_ok-group.ensures.begins c.in_ok-group.ensures.behind (omega arith);
}

pub put_fields-present-preserved : goal.put_fields-present-preserved
put_fields-present-preserved t c = record {
  goes = struct_goes_on c.put_value.new.places c.write_uint.new.out.items c.put_value.new.out.items
      c.present.invariant.goes (omega arith) c.in_ok-found.ensures.is c.in_ok-write_uint.ensures.ok
      c.in_ok-put_value.ensures.says c.in_ok-put_value.ensures.whole;
}

pub put_fields-returns-in_err-group-clause-whole : goal.put_fields-returns-in_err-group-clause-whole
put_fields-returns-in_err-group-clause-whole t c = λ b to h.
    fault_puts c.from_residual.result c.in_err-group.field-0.0 c.begin_group.new.places to c.args.out.now.items
    c.args.out.now.items b c.from_residual.ensures.1 (λ w. struct_node c.in_err-group.ensures.none h)

pub put_fields-returns-in_err-found-clause-whole : goal.put_fields-returns-in_err-found-clause-whole
put_fields-returns-in_err-found-clause-whole t c = λ b to h.
    let x = struct_next (c.in_ok-group.group.count - (c.present.counter + 1)) c.present.invariant.goes (omega arith) h
    in
    fault_puts c.from_residual-in_err-found.result c.in_err-found.field-0.0 c.present.places to
    c.args.out.now.items c.present.out.items b c.from_residual-in_err-found.ensures.1
    (λ w. c.in_err-found.ensures.none x.0 x.1.0 x.1.1.0)

pub put_fields-returns-in_err-put_value-clause-whole : goal.put_fields-returns-in_err-put_value-clause-whole
put_fields-returns-in_err-put_value-clause-whole t c = λ b to h.
    let x = struct_next (c.in_ok-group.group.count - (c.present.counter + 1)) c.present.invariant.goes (omega arith) h
    in
    let T = known c.args.walk.now in
    let N = nodes_of c.args.walk.now in
    let P = pool_of c.args.walk.now in
    let same = field_is c.in_ok-found.ensures.is x.1.1.0 in
    let says = subst (λ (f : Field). Says T N P f.id c.args.depth c.present.places x.1.1.1.0 x.1.1.1.1.0) (sym same.1)
    x.1.1.1.1.1 in
    fault_puts c.from_residual-in_err-put_value.result c.in_err-put_value.field-0.0 c.put_value.new.places to
    c.args.out.now.items c.put_value.new.out.items b c.from_residual-in_err-put_value.ensures.1
    (c.in_err-put_value.ensures.whole x.1.1.1.1.0 x.1.1.1.0 says)

pub put_fields-returns-clause-says : goal.put_fields-returns-clause-says
put_fields-returns-clause-says t c =
    struct_said c.end_group.result (omega arith) c.present.invariant.goes c.in_ok-write_uint-2.ensures.ok
    c.end_group.ensures.ends

pub put_fields-returns-clause-whole : goal.put_fields-returns-clause-whole
put_fields-returns-clause-whole t c = λ b to h.
    struct_puts c.end_group.result (omega arith) c.present.invariant.goes c.in_ok-write_uint-2.ensures.ok
    c.end_group.ensures.none h

-- ---- by the kind of the type

pub put_value-returns-then-depth-eq0-clause-whole : goal.put_value-returns-then-depth-eq0-clause-whole
put_value-returns-then-depth-eq0-clause-whole t c = λ b to h w.
    let some = some_depth h in absurd (omega (arith, some))

pub put_value-returns-in_default-clause-whole : goal.put_value-returns-in_default-clause-whole
put_value-returns-in_default-clause-whole t c = λ b to h w.
    let there = is_known h in
    let both = c.shape_of.ensures ∙ there.1 in grind (arith, both)

pub put_value-returns-in-Struct-clause-says : goal.put_value-returns-in-Struct-clause-says
put_value-returns-in-Struct-clause-says t c =
    let T = known c.args.walk.now in
    let N = nodes_of c.args.walk.now in
    let P = pool_of c.args.walk.now in
    kind_said T N P c.args.id c.put_fields.result c.args.places.now c.put_fields.new.places c.args.out.now.items
    c.put_fields.new.out.items (sym c.in-Some.ensures) (c.in-Struct.is ∙ ap kind.Struct (sym c.as_slice.ensures))
    (omega arith)
    (says_put (SaysStruct T N P c.as_slice.result.now (c.args.depth - 1))
    (SaysAs T N P (kind.Struct c.as_slice.result.now) c.args.depth) c.put_fields.result c.args.places.now
    c.put_fields.new.places c.args.out.now.items c.put_fields.new.out.items (λ b k. of_struct k)
    c.put_fields.ensures.says)

pub put_value-returns-in-Struct-clause-whole : goal.put_value-returns-in-Struct-clause-whole
put_value-returns-in-Struct-clause-whole t c = λ b to h.
    c.put_fields.ensures.whole b to (struct_stands (said_as (sym c.in-Some.ensures)
    (c.in-Struct.is ∙ ap kind.Struct (sym c.as_slice.ensures)) h))

pub put_value-returns-in-Opaque-clause-says : goal.put_value-returns-in-Opaque-clause-says
put_value-returns-in-Opaque-clause-says t c =
    let T = known c.args.walk.now in
    let N = nodes_of c.args.walk.now in
    let P = pool_of c.args.walk.now in
    kind_said T N P c.args.id c.put_opaque.result c.args.places.now c.put_opaque.new.places c.args.out.now.items
    c.put_opaque.new.out.items (sym c.in-Some.ensures) c.in-Opaque.is (omega arith)
    (says_put (SaysOpaqueAt N P) (SaysAs T N P (kind.Opaque _) c.args.depth) c.put_opaque.result c.args.places.now
    c.put_opaque.new.places c.args.out.now.items c.put_opaque.new.out.items (λ b k. of_opaque k)
    c.put_opaque.ensures.says)

pub put_value-returns-in-Opaque-clause-whole : goal.put_value-returns-in-Opaque-clause-whole
put_value-returns-in-Opaque-clause-whole t c = λ b to h.
    c.put_opaque.ensures.whole b to (opaque_stands (said_as (sym c.in-Some.ensures) c.in-Opaque.is h))

pub put_value-returns-in-Slice-clause-whole : goal.put_value-returns-in-Slice-clause-whole
put_value-returns-in-Slice-clause-whole t c = λ b to h.
    let s = slice_stands (said_as (sym c.in-Some.ensures) c.in-Slice.is h) in
    c.put_elements-in-Slice.ensures.whole s.0 b to s.1

pub put_value-returns-in-Map-clause-whole : goal.put_value-returns-in-Map-clause-whole
put_value-returns-in-Map-clause-whole t c = λ b to h.
    c.put_entries.ensures.whole b to (map_stands (said_as (sym c.in-Some.ensures) c.in-Map.is h))

pub put_value-returns-in-Slice-clause-says : goal.put_value-returns-in-Slice-clause-says
put_value-returns-in-Slice-clause-says t c =
    let e = c.put_elements-in-Slice in
    kind_said (known c.args.walk.now) (nodes_of c.args.walk.now) (pool_of c.args.walk.now) c.args.id e.result
    c.args.places.now e.new.places c.args.out.now.items e.new.out.items (sym c.in-Some.ensures) c.in-Slice.is (omega
    arith)
    (slice_kind (known c.args.walk.now) (nodes_of c.args.walk.now) (pool_of c.args.walk.now) _ c.args.depth
    e.result c.args.places.now e.new.places c.args.out.now.items e.new.out.items e.ensures.says)

pub put_value-returns-in-Map-clause-says : goal.put_value-returns-in-Map-clause-says
put_value-returns-in-Map-clause-says t c =
    let e = c.put_entries in
    kind_said (known c.args.walk.now) (nodes_of c.args.walk.now) (pool_of c.args.walk.now) c.args.id e.result
    c.args.places.now e.new.places c.args.out.now.items e.new.out.items (sym c.in-Some.ensures) c.in-Map.is (omega
    arith)
    (says_put (SaysMap (known c.args.walk.now) (nodes_of c.args.walk.now) (pool_of c.args.walk.now) _ _ (c.args.depth -
    1))
    (SaysAs (known c.args.walk.now) (nodes_of c.args.walk.now) (pool_of c.args.walk.now) (kind.Map _ _) c.args.depth)
    e.result
    c.args.places.now e.new.places c.args.out.now.items e.new.out.items (λ b k. of_map k) e.ensures.says)

pub put_value-returns-in_ok-has_count-in-Array-clause-says : goal.put_value-returns-in_ok-has_count-in-Array-clause-says
put_value-returns-in_ok-has_count-in-Array-clause-says t c =
    let e = c.put_elements in
    kind_said (known c.args.walk.now) (nodes_of c.args.walk.now) (pool_of c.args.walk.now) c.args.id e.result
    c.args.places.now e.new.places c.args.out.now.items e.new.out.items (sym c.in-Some.ensures) c.in-Array.is (omega
    arith)
    (array_kind (known c.args.walk.now) (nodes_of c.args.walk.now) (pool_of c.args.walk.now) _ c.args.depth
    c.in-Array.len e.result c.args.places.now e.new.places c.args.out.now.items e.new.out.items
    c.in_ok-has_count-in-Array.ensures.has e.ensures.says)

pub put_value-returns-in_ok-has_count-in-Array-clause-whole :
    goal.put_value-returns-in_ok-has_count-in-Array-clause-whole
put_value-returns-in_ok-has_count-in-Array-clause-whole t c = λ b to h.
    c.put_elements.ensures.whole c.in-Array.len b to (array_stands (said_as (sym c.in-Some.ensures) c.in-Array.is h))

pub put_value-returns-in_err-has_count-in-Array-clause-whole :
    goal.put_value-returns-in_err-has_count-in-Array-clause-whole
put_value-returns-in_err-has_count-in-Array-clause-whole t c = λ b to h.
    fault_puts c.from_residual.result c.in_err-has_count-in-Array.field-0.0 c.args.places.now to c.args.out.now.items
    c.args.out.now.items b c.from_residual.ensures.1
    (λ w. count_not c.in_err-has_count-in-Array.ensures.none
    (array_stands (said_as (sym c.in-Some.ensures) c.in-Array.is h)))

pub put_value-returns-in-Basic-clause-says : goal.put_value-returns-in-Basic-clause-says
put_value-returns-in-Basic-clause-says t c =
    let e = c.put_basic in
    kind_said (known c.args.walk.now) (nodes_of c.args.walk.now) (pool_of c.args.walk.now) c.args.id e.result
    c.args.places.now e.new.places c.args.out.now.items e.new.out.items (sym c.in-Some.ensures) c.in-Basic.is (omega
    arith)
    e.ensures.says

pub put_value-returns-in-Basic-clause-whole : goal.put_value-returns-in-Basic-clause-whole
put_value-returns-in-Basic-clause-whole t c = λ b to h.
    c.put_basic.ensures.whole b to (said_as (sym c.in-Some.ensures) c.in-Basic.is h)

-- ---- basic types

pub put_basic-returns-in-Interface-clause-says : goal.put_basic-returns-in-Interface-clause-says
put_basic-returns-in-Interface-clause-says t c =
    let e = c.put_interface in
    let T = known c.args.walk.now in
    let N = nodes_of c.args.walk.now in
    let P = pool_of c.args.walk.now in
    subst (λ (k : Basic). OnOk e.result (PutsSaid (SaysAs T N P (kind.Basic k) c.args.depth) c.args.places.now
    e.new.places
    c.args.out.now.items e.new.out.items)) (sym c.in-Interface.is)
    (says_put (SaysInterface T N P (c.args.depth - 1)) (SaysAs T N P (kind.Basic basic.Interface) c.args.depth) e.result
    c.args.places.now e.new.places c.args.out.now.items e.new.out.items (λ b k. interface_as k) e.ensures.says)

pub put_basic-returns-in-Interface-clause-whole : goal.put_basic-returns-in-Interface-clause-whole
put_basic-returns-in-Interface-clause-whole t c = λ b to h.
    let T = known c.args.walk.now in
    let N = nodes_of c.args.walk.now in
    let P = pool_of c.args.walk.now in
    c.put_interface.ensures.whole b to (interface_stands
    (subst (λ (k : Basic). SaysAs T N P (kind.Basic k) c.args.depth c.args.places.now to b) c.in-Interface.is h))

pub put_basic-returns-in_default-clause-says : goal.put_basic-returns-in_default-clause-says
put_basic-returns-in_default-clause-says t c =
    let e = c.put_leaf in
    let T = known c.args.walk.now in
    let N = nodes_of c.args.walk.now in
    let P = pool_of c.args.walk.now in
    says_put (SaysLeafAt N P c.args.basic) (SaysAs T N P (kind.Basic c.args.basic) c.args.depth) e.result
    c.args.places.now e.new.places c.args.out.now.items e.new.out.items (λ b k. of_leaf k) e.ensures.says

pub put_basic-returns-in_default-clause-whole : goal.put_basic-returns-in_default-clause-whole
put_basic-returns-in_default-clause-whole t c = λ b to h.
    c.put_leaf.ensures.whole b to (leaf_stands c.in_default.not-Interface h)

-- ---- interfaces

pub put_interface-returns-in_err-node-clause-whole : goal.put_interface-returns-in_err-node-clause-whole
put_interface-returns-in_err-node-clause-whole t c = λ b to h.
    fault_puts c.from_residual.result c.in_err-node.field-0.0 c.args.places.now to c.args.out.now.items
    c.args.out.now.items b c.from_residual.ensures.1 (λ w. interface_there c.in_err-node.ensures.none h)

pub put_interface-returns-in-15-clause-says : goal.put_interface-returns-in-15-clause-says
put_interface-returns-in-15-clause-says t c =
    let e = c.put_held_value in
    says_put (SaysHeld (known c.args.walk.now) (nodes_of c.args.walk.now) (pool_of c.args.walk.now) c.args.depth)
    (SaysInterface (known c.args.walk.now) (nodes_of c.args.walk.now) (pool_of c.args.walk.now) c.args.depth) e.result
    c.args.places.now e.new.places c.args.out.now.items e.new.out.items (λ b k. says_held k) e.ensures.says

pub put_interface-returns-in-15-clause-whole : goal.put_interface-returns-in-15-clause-whole
put_interface-returns-in-15-clause-whole t c = λ b to h.
    c.put_held_value.ensures.whole b to (held_only c.in_ok-node.ensures.there c.in-15.is h)

pub put_interface-returns-in_default-clause-says : goal.put_interface-returns-in_default-clause-says
put_interface-returns-in_default-clause-says t c =
    let e = c.put_leaf in
    says_put (SaysLeafAt (nodes_of c.args.walk.now) (pool_of c.args.walk.now) basic.Interface)
    (SaysInterface (known c.args.walk.now) (nodes_of c.args.walk.now) (pool_of c.args.walk.now) c.args.depth) e.result
    c.args.places.now e.new.places c.args.out.now.items e.new.out.items (λ b k. says_nil k) e.ensures.says

pub put_interface-returns-in_default-clause-whole : goal.put_interface-returns-in_default-clause-whole
put_interface-returns-in_default-clause-whole t c = λ b to h.
    c.put_leaf.ensures.whole b to (nil_only c.in_ok-node.ensures.there (search rules) h)

pub put_held_value-returns-in_err-held-clause-whole : goal.put_held_value-returns-in_err-held-clause-whole
put_held_value-returns-in_err-held-clause-whole t c = λ b to h.
    let k = held_parts h in
    fault_puts c.from_residual.result c.in_err-held.field-0.0 c.args.places.now to c.args.out.now.items
    c.args.out.now.items b c.from_residual.ensures.1
    (c.in_err-held.ensures.whole k.id k.name k.is k.may (signed_small k.typed))

pub put_held_value-returns-in_err-end-clause-whole : goal.put_held_value-returns-in_err-end-clause-whole
put_held_value-returns-in_err-end-clause-whole t c = λ b to h.
    let k = held_parts h in
    let front = c.in_ok-held.ensures.whole k.id k.name k.is k.may (signed_small k.typed) in
    let T = known c.args.walk.now in
    let N = nodes_of c.args.walk.now in
    let P = pool_of c.args.walk.now in
    let says = subst (λ i. SaysTop T N P i c.args.depth (c.args.places.now.held + 1) k.end k.value)
    (sym (ap (λ (p : List ℕ × TypeId). p.1) front)) k.says in
    fault_puts c.from_residual-in_err-end.result c.in_err-end.field-0.0 c.args.places.now to c.args.out.now.items
    c.args.out.now.items b c.from_residual-in_err-end.ensures.1 (c.in_err-end.ensures.whole k.value k.end says)

pub put_held_value-returns-clause-says : goal.put_held_value-returns-clause-says
put_held_value-returns-clause-says t c =
    let none : c.new-body.result.items ≡ [] = search rules in
    let held = c.in_ok-held.held in
    let T = known c.args.walk.now in
    let N = nodes_of c.args.walk.now in
    let P = pool_of c.args.walk.now in
    let body = subst (λ (b : List ℕ). PutsSaid (SaysTop T N P held.id c.args.depth) (c.args.places.now.held + 1)
    c.in_ok-end.end b c.put_top.new.out.items) none c.in_ok-end.ensures.says in
    let put = subst (λ (b : List ℕ). Appends (SpellsHeld held.name.now held.id b) c.args.out.now.items
    c.put_held.new.out.items) c.deref.ensures.value c.in_ok-put_held.ensures.ok in
    held_said held.name.now c.args.places.now c.in_ok-end.end c.put_top.new.out.items c.args.out.now.items
    c.put_held.new.out.items c.in_ok-held.ensures.there c.in_ok-held.ensures.may body put

pub put_held_value-returns-clause-whole : goal.put_held_value-returns-clause-whole
put_held_value-returns-clause-whole t c = λ b to h.
    let none : c.new-body.result.items ≡ [] = search rules in
    let k = held_parts h in
    let front = c.in_ok-held.ensures.whole k.id k.name k.is k.may (signed_small k.typed) in
    let T = known c.args.walk.now in
    let N = nodes_of c.args.walk.now in
    let P = pool_of c.args.walk.now in
    let says = subst (λ i. SaysTop T N P i c.args.depth (c.args.places.now.held + 1) k.end k.value)
    (sym (ap (λ (p : List ℕ × TypeId). p.1) front)) k.says in
    let value = c.in_ok-end.ensures.whole k.value k.end says in
    held_was_put k c.in_ok-held.held.name.now c.in_ok-held.held.id c.deref.result.now c.in_ok-end.end
    c.args.out.now.items c.put_held.new.out.items c.in_ok-put_held.ensures.ok front value.0
    (c.deref.ensures.value ∙ value.1 ∙ ap (λ (a : List ℕ). a ++ k.value) none)

-- ---- a whole value

pub put_top-returns-then-has_structs-clause-says : goal.put_top-returns-then-has_structs-clause-says
put_top-returns-then-has_structs-clause-says t c =
    struct_top (known c.args.walk.now) (nodes_of c.args.walk.now) (pool_of c.args.walk.now) c.args.id c.args.depth
    c.put_own.result c.args.from c.args.out.now.items c.put_own.new.out.items
    (c.has_structs.ensures.0 (search rules)) c.put_own.ensures.says

pub put_top-returns-then-has_structs-clause-whole : goal.put_top-returns-then-has_structs-clause-whole
put_top-returns-then-has_structs-clause-whole t c = λ b end h.
    c.put_own.ensures.whole b end (top_as (c.has_structs.ensures.0 (search rules)) h)

pub put_top-returns-clause-says : goal.put_top-returns-clause-says
put_top-returns-clause-says t c =
    tag_top (known c.args.walk.now) (nodes_of c.args.walk.now) (pool_of c.args.walk.now) c.args.id c.args.depth
    c.put_own-2.result c.args.from c.args.out.now.items c.push.new.self.items c.put_own-2.new.out.items
    (λ h. let yes = c.has_structs.ensures.1 h in grind (arith, yes)) (search rules) c.put_own-2.ensures.says

pub put_top-returns-clause-whole : goal.put_top-returns-clause-whole
put_top-returns-clause-whole t c = λ b end h.
    let k = top_behind (λ h. let yes = c.has_structs.ensures.1 h in grind (arith, yes)) h in
    tag_ends c.put_own-2.result end c.args.out.now.items c.push.new.self.items c.put_own-2.new.out.items b k.bytes
    (search rules) k.whole (c.put_own-2.ensures.whole k.bytes end k.says)

pub put_own-returns-in_err-held-clause-whole : goal.put_own-returns-in_err-held-clause-whole
put_own-returns-in_err-held-clause-whole t c = λ b end h.
    fault_ends c.from_residual.result c.in_err-held.field-0.0 end c.args.out.now.items c.args.out.now.items b
    c.from_residual.ensures.1 (λ w. own_there c.in_err-held.ensures.none h)

pub put_own-returns-in_err-put_value-clause-whole : goal.put_own-returns-in_err-put_value-clause-whole
put_own-returns-in_err-put_value-clause-whole t c = λ b end h.
    let s = own_stands c.in_ok-held.held c.in_ok-held.ensures.ends h in
    fault_ends c.from_residual-in_err-put_value.result c.in_err-put_value.field-0.0 end c.args.out.now.items
    c.put_value.new.out.items b c.from_residual-in_err-put_value.ensures.1 (c.in_err-put_value.ensures.whole b _ s)

pub put_own-returns-then-places-held-clause-whole : goal.put_own-returns-then-places-held-clause-whole
put_own-returns-then-places-held-clause-whole t c = λ b end h.
    let s = own_stands c.in_ok-held.held c.in_ok-held.ensures.ends h in
    let it = c.in_ok-put_value.ensures.whole b _ s in
    λ w. c.if-places-held.true (ap (λ (p : Places). p.at) it.0)

pub put_own-returns-clause-says : goal.put_own-returns-clause-says
put_own-returns-clause-says t c =
    own_said c.args.from c.put_value.new.places c.args.out.now.items c.put_value.new.out.items (search rules)
    c.in_ok-put_value.ensures.says

pub put_own-returns-clause-whole : goal.put_own-returns-clause-whole
put_own-returns-clause-whole t c = λ b end h.
    let s = own_stands c.in_ok-held.held c.in_ok-held.ensures.ends h in
    let it = c.in_ok-put_value.ensures.whole b _ s in
    (ap (λ (p : Places). p.held) it.0, it.1)
