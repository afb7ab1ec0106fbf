-- What stands behind the place that is reached is known.
use Rattle.std.proofs.Common.{◌≤◌, drop, length}
use Rattle.gob_go_types.specs.Code.{DistinctNames}
use Rattle.gob_go_types.specs.Names.{KnowsNames}
use Rattle.gob_go_types.proofs.code.names_of.Given as goal

abbrev pub invariant-names : goal.invariant-names
invariant-names l = record {
  within : l.left ≤ length l.declarations;
  known : KnowsNames l.declarations l.left l.names.entries;
  distinct : DistinctNames (drop l.left l.declarations);
}

abbrev pub decreases-names : goal.decreases-names
decreases-names l = l.left
