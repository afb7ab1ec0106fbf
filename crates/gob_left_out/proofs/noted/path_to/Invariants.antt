-- The steps so far were copied.
use Rattle.std.proofs.Common.{◌≡◌, take}
use Rattle.gob_left_out.proofs.noted.path_to.Given as goal

abbrev pub invariant-loop-step : goal.invariant-loop-step
invariant-loop-step l = l.path.items ≡ take l.step-index l.trail
