use Rattle.std.proofs.Common.{sym, ◌∙◌}
use Rattle.gob_all.proofs.LookUpLaws.{found_here, found_later, found_none}
use Rattle.gob_all.proofs.look_ups.part_in.Goals as goal

pub returns-then-at-number : goal.returns-then-at-number
returns-then-at-number c =
    sym c.loop-at.invariant ∙ found_here c.args.number c.args.present.now c.loop-at.at-index c.loop-at-item.result
    c.loop-at-item.is c.loop-at-test.true c.if-at-number.true

pub loop-at-preserved : goal.loop-at-preserved
loop-at-preserved c =
    sym (found_later c.args.number c.args.present.now c.loop-at.at-index c.loop-at-item.result c.loop-at-item.is
    c.loop-at-test.true c.if-at-number.false) ∙ c.loop-at.invariant

pub returns : goal.returns
returns c =
    sym c.loop-at.invariant ∙ found_none c.args.number c.args.present.now c.loop-at.at-index c.loop-at-test.false
