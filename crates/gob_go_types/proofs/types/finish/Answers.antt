-- Definition by definition more are done.
use Rattle.std.proofs.Common.{arith}
use Rattle.gob_go_types.proofs.KindLaws.{keeps_same, keeps_then}
use Rattle.gob_go_types.proofs.types.finish.Goals as goal

pub slots-init : goal.slots-init
slots-init c = record { sound = c.requires; keeps = keeps_same c.args.numbers.now; done = tt }

pub settle-requires-clause-within : goal.settle-requires-clause-within
settle-requires-clause-within c = grind arith

pub slots-preserved : goal.slots-preserved
slots-preserved c = record {
  sound = c.in_ok-settle.ensures.sound;
  keeps = keeps_then _ _ _ c.slots.invariant.keeps c.in_ok-settle.ensures.keeps;
  done = c.in_ok-settle.ensures.done;
}
