-- Fewer levels are left.
use Rattle.std.proofs.Common.{◌+◌, ◌*◌}
use Rattle.gob_source.proofs.types.+source.Given as goal

abbrev pub decreases-push_type : goal.decreases-push_type
decreases-push_type g l = 3 * l.levels + 1

abbrev pub decreases-push_defined : goal.decreases-push_defined
decreases-push_defined g l = 3 * l.levels

abbrev pub decreases-push_parts : goal.decreases-push_parts
decreases-push_parts g l = 3 * l.levels + 2
