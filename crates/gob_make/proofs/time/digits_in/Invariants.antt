-- They are within the bytes.
use Rattle.std.proofs.Common.{◌≤◌, ◌-◌, length}
use Rattle.gob_make.proofs.time.digits_in.Given as goal

abbrev pub invariant-digits : goal.invariant-digits
invariant-digits l = l.end ≤ length l.bytes

abbrev pub decreases-digits : goal.decreases-digits
decreases-digits l = length l.bytes - l.end
