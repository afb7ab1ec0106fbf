use Rattle.std.proofs.Common.{arith, refl, sym}
use Rattle.gob_read.proofs.Machine.FieldSteps.{can_name, field_placed, past_end}
use Rattle.gob_read.proofs.Machine.BasicPartSteps.{go_on_ends, ends_go_on}
use Rattle.gob_read.proofs.state.State.take_field.Goals as goal

pub end_fields-requires : goal.end_fields-requires
end_fields-requires g c = go_on_ends c.if-n-eq0.true c.requires

pub returns-then-n-eq0 : goal.returns-then-n-eq0
returns-then-n-eq0 g c = ends_go_on c.if-n-eq0.true c.in_ok-end_fields.ensures

pub returns-in_default : goal.returns-in_default
returns-in_default g c =
    let z = c.if-n-eq0.false in
    let h = c.saturating_add-number.ensures in
    let l = past_end c.args.fields.now c.saturating_add-number.result c.in_default.ensures.found in
    record { reason_is = refl; some = omega arith; past = omega arith }

pub name_field-requires-clause-named : goal.name_field-requires-clause-named
name_field-requires-clause-named g c = can_name c.saturating_add-number.result c.requires (let h =
    c.saturating_add-number.ensures in let s = c.in-Some.ensures.small in let z = c.if-n-eq0.false in omega arith)

pub returns : goal.returns
returns g c =
    let h = c.saturating_add-number.ensures in let s = c.in-Some.ensures.small in let z = c.if-n-eq0.false in
    let n = c.in_ok-name_field.ensures in
    record {
      each = field_placed c.saturating_add-number.result n.stack n.expected n.told (omega arith) (omega arith)
          (sym c.in-Some.ensures.found);
    }
