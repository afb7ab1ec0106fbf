-- One more is taken.
use Rattle.std.proofs.Common.{refl, arith}
use Rattle.gob_views.specs.Values.{none_taken}
use Rattle.gob_views.proofs.TakenLaws.{taken_more, taken_all}
use Rattle.gob_views.proofs.value_line.taken_of.Goals as goal

pub loop-said-init : goal.loop-said-init
loop-said-init c = rw c.in_ok-taken.ensures.items none_taken

pub loop-said-preserved : goal.loop-said-preserved
loop-said-preserved c =
    taken_more c.args.kinds.now c.loop-said.said-index _ _ _ c.loop-said.invariant (omega arith) refl
    c.content_of.ensures c.in_ok-push.ensures.items

pub returns : goal.returns
returns c = taken_all c.args.kinds.now c.loop-said.said-index _ c.loop-said.invariant (omega arith)
