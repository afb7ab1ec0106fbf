-- Each mark that doesn't stand is gone past.
use Rattle.gob_forms.proofs.FormLaws.{none_left, stands_here, stands_not}
use Rattle.gob_forms.proofs.form.first_in.Goals as goal

pub returns-then-stands_in : goal.returns-then-stands_in
returns-then-stands_in c = stands_here c.args.marks.now c.args.front.now c.loop-mark.mark-index _ c.loop-mark-test.true
    (c.stands_in.ensures.0 c.if-stands_in.true) c.loop-mark.invariant

pub loop-mark-preserved : goal.loop-mark-preserved
loop-mark-preserved c = stands_not c.args.marks.now c.args.front.now c.loop-mark.mark-index _ c.stands_in.result
    c.loop-mark-test.true c.stands_in.ensures.1 c.if-stands_in.false c.loop-mark.invariant

pub returns : goal.returns
returns c = none_left c.args.marks.now c.args.front.now c.loop-mark.mark-index c.loop-mark-test.false
    c.loop-mark.invariant
