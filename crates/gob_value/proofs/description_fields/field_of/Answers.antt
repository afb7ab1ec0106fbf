use Rattle.std.proofs.Common.{sym, ◌∙◌}
use Rattle.gob_value.proofs.DescriptionSteps.{present_here, present_later, present_none}
use Rattle.gob_value.proofs.description_fields.field_of.Goals as goal

pub returns-then-n-number : goal.returns-then-n-number
returns-then-n-number c =
    sym (present_here c.args.number c.args.fields.now c.loop-n.n-index c.loop-n-item.result c.loop-n-item.is
    c.loop-n-test.true c.if-n-number.true) ∙ c.loop-n.invariant

pub loop-n-preserved : goal.loop-n-preserved
loop-n-preserved c =
    sym (present_later c.args.number c.args.fields.now c.loop-n.n-index c.loop-n-item.result c.loop-n-item.is
    c.loop-n-test.true c.if-n-number.false) ∙ c.loop-n.invariant

pub returns : goal.returns
returns c = sym (present_none c.args.number c.args.fields.now c.loop-n.n-index c.loop-n-test.false) ∙ c.loop-n.invariant
