use Rattle.std.proofs.Common.{refl, sym}
use Rattle.gob_read.specs.Machine.Kinds.{is_opaque, is_slice, of_map}
use Rattle.gob_read.proofs.Machine.FieldSteps.{struct_no_first}
use Rattle.gob_read.proofs.Machine.ItemSteps.{takes_or_blames, first_can, first_takes, first_refuses, first_defined}
use Rattle.gob_read.proofs.Machine.ItemSteps.{count_no_first, struct_can, struct_takes, array_is}
use Rattle.gob_read.proofs.state.State.take_part.Goals as goal

pub take_basic-requires : goal.take_basic-requires
take_basic-requires g c = first_can (record {
  shape = c.in-Some.shape.now;
  there = sym c.in-Some.ensures;
  kind =
      c.in-Basic.is;
}) refl c.requires

pub returns-in-Basic : goal.returns-in-Basic
returns-in-Basic g c =
    takes_or_blames c.take_basic.result
    (λ moved b. first_takes (record {
      shape = c.in-Some.shape.now;
      there = sym c.in-Some.ensures;
      kind =
          c.in-Basic.is;
    }) refl b)
    (λ r h. first_refuses (record { shape = c.in-Some.shape.now; there = sym c.in-Some.ensures; kind = c.in-Basic.is })
    h) c.take_basic.ensures

pub take_byte_count-requires : goal.take_byte_count-requires
take_byte_count-requires g c = first_can (record {
  shape = c.in-Some.shape.now;
  there = sym c.in-Some.ensures;
  kind =
      c.in-Opaque.is;
}) is_opaque c.requires

pub returns-in_ok-take_byte_count-in-Opaque : goal.returns-in_ok-take_byte_count-in-Opaque
returns-in_ok-take_byte_count-in-Opaque g c =
    first_takes (record { shape = c.in-Some.shape.now; there = sym c.in-Some.ensures; kind = c.in-Opaque.is }) is_opaque
    c.in_ok-take_byte_count-in-Opaque.ensures

pub take_first_delta-requires : goal.take_first_delta-requires
take_first_delta-requires g c = struct_can (record {
  shape = c.in-Some.shape.now;
  there = sym c.in-Some.ensures;
  kind =
      c.in-Struct.is;
}) c.requires

pub returns-in-Struct : goal.returns-in-Struct
returns-in-Struct g c =
    takes_or_blames c.take_first_delta.result
    (λ moved b. struct_takes (record {
      shape = c.in-Some.shape.now;
      there = sym c.in-Some.ensures;
      kind =
          c.in-Struct.is;
    }) b)
    (λ r h. first_refuses (record { shape = c.in-Some.shape.now; there = sym c.in-Some.ensures; kind = c.in-Struct.is })
    (struct_no_first h)) c.take_first_delta.ensures

pub take_count-requires : goal.take_count-requires
take_count-requires g c = first_can (record {
  shape = c.in-Some.shape.now;
  there = sym c.in-Some.ensures;
  kind =
      c.in-Map.is;
}) (of_map c.saturating_sub-left.ensures) c.requires

pub returns-in_ok-take_count-in-Map : goal.returns-in_ok-take_count-in-Map
returns-in_ok-take_count-in-Map g c = first_takes (record {
  shape = c.in-Some.shape.now;
  there = sym c.in-Some.ensures;
  kind = c.in-Map.is;
}) (of_map c.saturating_sub-left.ensures) c.in_ok-take_count-in-Map.ensures

pub take_element_count-requires : goal.take_element_count-requires
take_element_count-requires g c = first_can (record {
  shape = c.in-Some.shape.now;
  there = sym c.in-Some.ensures;
  kind =
      c.in-Slice.is;
}) is_slice c.requires

pub returns-in_ok-take_element_count-in-Slice : goal.returns-in_ok-take_element_count-in-Slice
returns-in_ok-take_element_count-in-Slice g c =
    first_takes (record { shape = c.in-Some.shape.now; there = sym c.in-Some.ensures; kind = c.in-Slice.is }) is_slice
    c.in_ok-take_element_count-in-Slice.ensures

pub returns-then-n-len : goal.returns-then-n-len
returns-then-n-len g c = first_refuses (record {
  shape = c.in-Some.shape.now;
  there = sym c.in-Some.ensures;
  kind =
      c.in-Array.is;
}) (count_no_first c.if-n-len.true)

pub take_element_count-requires-in-Array : goal.take_element_count-requires-in-Array
take_element_count-requires-in-Array g c =
    first_can (record { shape = c.in-Some.shape.now; there = sym c.in-Some.ensures; kind = c.in-Array.is })
    (array_is c.if-n-len.false) c.requires

pub returns-in_ok-take_element_count-in-Array : goal.returns-in_ok-take_element_count-in-Array
returns-in_ok-take_element_count-in-Array g c =
    first_takes (record { shape = c.in-Some.shape.now; there = sym c.in-Some.ensures; kind = c.in-Array.is })
    (array_is c.if-n-len.false) c.in_ok-take_element_count-in-Array.ensures

pub unreachable-requires : goal.unreachable-requires
unreachable-requires g c = first_defined c.requires c.in_default.ensures
