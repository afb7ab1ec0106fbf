use Rattle.std.proofs.Common.{sym, ap, ◌∙◌, Some}
use Rattle.gob_read.proofs.Machine.ItemSteps.{takes_or_blames}
use Rattle.gob_read.proofs.Machine.FieldSteps.{delta_can, delta_takes, delta_refuses, not_open, not_fields, not_defined}
use Rattle.gob_read.proofs.Machine.FieldSteps.{not_struct}
use Rattle.gob_read.proofs.state.State.take_delta.Goals as goal

pub unreachable-requires : goal.unreachable-requires
unreachable-requires g c = not_open c.requires c.in_default.ensures

pub unreachable-requires-in_default-frame : goal.unreachable-requires-in_default-frame
unreachable-requires-in_default-frame g c = not_fields c.requires c.in-Some.ensures c.in_default-frame.not-Fields

pub unreachable-requires-in_default-shape_of : goal.unreachable-requires-in_default-shape_of
unreachable-requires-in_default-shape_of g c = not_defined (sym c.in-Some.ensures ∙ ap Some c.in-Fields.is) c.requires
    c.in_default-shape_of.ensures

pub unreachable-requires-in_default-kind : goal.unreachable-requires-in_default-kind
unreachable-requires-in_default-kind g c = not_struct (sym c.in-Some.ensures ∙ ap Some c.in-Fields.is) c.requires
    c.in-Some-shape_of.ensures c.in_default-kind.not-Struct

pub take_field-requires : goal.take_field-requires
take_field-requires g c = delta_can (sym c.in-Some.ensures ∙ ap Some c.in-Fields.is)
    (record { shape = c.in-Some-shape_of.shape.now; there = sym c.in-Some-shape_of.ensures; kind = c.in-Struct.is })
    c.requires

pub returns : goal.returns
returns g c =
    takes_or_blames c.take_field.result (λ moved h. delta_takes c.requires.expected (sym c.in-Some.ensures
    ∙ ap Some c.in-Fields.is) (record {
      shape = c.in-Some-shape_of.shape.now;
      there =
          sym c.in-Some-shape_of.ensures;
      kind = c.in-Struct.is;
    }) h)
    (λ r h. delta_refuses c.requires.expected (sym c.in-Some.ensures ∙ ap Some c.in-Fields.is)
    (record { shape = c.in-Some-shape_of.shape.now; there = sym c.in-Some-shape_of.ensures; kind = c.in-Struct.is })
    h) c.take_field.ensures
