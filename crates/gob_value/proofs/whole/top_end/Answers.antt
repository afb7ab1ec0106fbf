use Rattle.std.proofs.Common.{arith, refl}
use Rattle.gob_value.proofs.WholeLaws.{struct_top, behind_tag}
use Rattle.gob_value.proofs.WholeSteps.{if_some, seen, struct_begins}
use Rattle.gob_value.proofs.whole.top_end.Goals as goal

pub returns-in-Struct : goal.returns-in-Struct
returns-in-Struct g c =
    rw c.in-Struct.is (if_some c.fields_end.result (λ end s. seen (seen s
    (struct_begins _ _ c.in-Struct.fields c.min-most.result (omega arith)))
    (struct_top (omega arith) c.in-Struct.fields refl)) c.fields_end.ensures)

pub returns-in_default : goal.returns-in_default
returns-in_default g c =
    if_some c.value_end.result (λ end s. behind_tag (omega arith) c.in_default.not-Struct c.args.body.now c.args.at end
    c.if-at-body.false c.if-body-at-eq0.true s) c.value_end.ensures
