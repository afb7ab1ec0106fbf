-- One more was looked at.
use Rattle.std.proofs.Common.{◌∙◌, sym}
use Rattle.gob_plain.proofs.OpaqueLaws.{taken_more, said_now, not_said}
use Rattle.gob_plain.proofs.opaque.taken_as.Goals as goal
use Rattle.gob_plain.proofs.opaque.taken_as.Goals.{then-eq, else-eq}

pub loop-said-preserved : goal.loop-said-preserved
loop-said-preserved c =
    taken_more c.args.taken.now c.args.id c.loop-said.said-index c.loop-said.content c.if-eq.content _
    c.loop-said-test.true c.loop-said.invariant (elim c.if-eq.branch [
      | then-eq w ↦ said_now c.loop-said.content c.if-eq.content _ _ (sym c.eq.ensures ∙ w.if-eq.true) w.content-is
      | else-eq w ↦ not_said c.loop-said.content c.if-eq.content _ _ (sym c.eq.ensures ∙ w.if-eq.false) w.content-is
    ])
