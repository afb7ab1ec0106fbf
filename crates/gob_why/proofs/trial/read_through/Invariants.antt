use Rattle.std.proofs.Common.{◌≤◌, ◌-◌, length}
use Rattle.gob_why.proofs.trial.read_through.Given as goal

abbrev pub invariant-steps : goal.invariant-steps
invariant-steps l = l.used ≤ length l.bytes

abbrev pub decreases-steps : goal.decreases-steps
decreases-steps l = length l.bytes - l.used
