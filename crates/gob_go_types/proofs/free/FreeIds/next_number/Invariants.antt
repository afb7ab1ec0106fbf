-- No id is given meanwhile.
use Rattle.std.proofs.Common.{◌≡◌, ◌-◌}
use Rattle.gob_go_types.proofs.free.FreeIds.next_number.Given as goal

abbrev pub invariant-ids : goal.invariant-ids
invariant-ids l = l.self.given ≡ l.fn.self.given

abbrev pub decreases-ids : goal.decreases-ids
decreases-ids l = 2147483648 - l.self.next
