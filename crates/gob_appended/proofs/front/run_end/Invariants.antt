use Rattle.std.proofs.Common.{◌-◌, length}
use Rattle.gob_appended.specs.Once.{StaysAlike}
use Rattle.gob_appended.proofs.front.run_end.Given as goal

abbrev pub invariant-run : goal.invariant-run
invariant-run l = StaysAlike l.bytes l.size l.end

abbrev pub decreases-run : goal.decreases-run
decreases-run l = length l.bytes - l.end
