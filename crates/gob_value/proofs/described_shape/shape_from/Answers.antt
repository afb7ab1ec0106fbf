use Rattle.std.proofs.Common.{rules, refl, sym, ap, ◌∙◌, w64}
use Rattle.std.proofs.lemmas.Int.{to_z-of_z}
use Rattle.gob_value.specs.View.{view, field_views}
use Rattle.gob_value.specs.Description.{present_field, number_in, name_in, kind_count, wrong_id}
use Rattle.gob_value.specs.Machine.Saying.{what_said}
use Rattle.gob_value.specs.ShapeFaults.{IsShapeFault}
use Rattle.gob_value.specs.declared.fault.ShapeFault.TheVariants as fault
use Rattle.gob_value.proofs.TestSteps.{not_true}
use Rattle.gob_value.proofs.JudgedLaws.{fault_at, kind_fault, some_shape}
use Rattle.gob_value.proofs.DefinableLaws.{definable}
use Rattle.gob_value.proofs.described_shape.shape_from.Goals as goal

pub returns-in_default-clause-fault : goal.returns-in_default-clause-fault
returns-in_default-clause-fault c = kind_count c.in_default.ensures

pub returns-then-not-is_id-clause-fault : goal.returns-then-not-is_id-clause-fault
returns-then-not-is_id-clause-fault c =
    let number = c.number_of.result in
    let said_id = to_z-of_z w64 number (search rules) ∙ c.number_of.ensures
    ∙ ap (λ fs. number_in (present_field 1 fs)) c.struct_of-common.ensures in
    wrong_id c.in-Some.ensures (λ same. not_true c.if-not-is_id.true c.is_id.ensures (said_id ∙ same))

pub returns-in_err-kind-clause-fault : goal.returns-in_err-kind-clause-fault
returns-in_err-kind-clause-fault c =
    let number = c.number_of.result in
    let said_id = to_z-of_z w64 number (search rules) ∙ c.number_of.ensures
    ∙ ap (λ fs. number_in (present_field 1 fs)) c.struct_of-common.ensures in
    let v = view c.args.described.now in
    let what = what_said c.in-Some.wire (field_views c.in-Some.fields.now) in
    fault_at (IsShapeFault c.args.id v) c.from_residual.result c.in_err-kind.field-0.0 c.from_residual.ensures.1
    (kind_fault c.args.id v what c.in_err-kind.field-0.0 c.in-Some.ensures (sym said_id ∙ c.if-not-is_id.ensures.0 refl)
    c.in_err-kind.ensures.fault)

pub returns-in_err-name-clause-fault : goal.returns-in_err-name-clause-fault
returns-in_err-name-clause-fault c =
    let number = c.number_of.result in
    let said_id = to_z-of_z w64 number (search rules) ∙ c.number_of.ensures
    ∙ ap (λ fs. number_in (present_field 1 fs)) c.struct_of-common.ensures in
    let v = view c.args.described.now in
    let what = what_said c.in-Some.wire (field_views c.in-Some.fields.now) in
    fault_at (IsShapeFault c.args.id v) c.from_residual-in_err-name.result fault.Memory
    c.from_residual-in_err-name.ensures.1
    (some_shape c.args.id v what c.in_ok-kind.kind c.in-Some.ensures (sym said_id ∙ c.if-not-is_id.ensures.0 refl)
    c.in_ok-kind.ensures.kind)

pub returns-clause-shape : goal.returns-clause-shape
returns-clause-shape c =
    let number = c.number_of.result in
    let said_id = to_z-of_z w64 number (search rules) ∙ c.number_of.ensures
    ∙ ap (λ fs. number_in (present_field 1 fs)) c.struct_of-common.ensures in
    record {
      what = what_said c.in-Some.wire (field_views c.in-Some.fields.now);
      says = c.in-Some.ensures;
      same_id = sym said_id ∙ c.if-not-is_id.ensures.0 refl;
      name = c.in_ok-name.ensures ∙ c.text_of.ensures
          ∙ ap (λ fs. name_in (present_field 0 fs)) c.struct_of-common.ensures;
      kind = c.in_ok-kind.ensures.kind;
    }

pub returns-clause-definable : goal.returns-clause-definable
returns-clause-definable c = definable c.args.id (view c.args.described.now) _ c.requires (returns-clause-shape c)
