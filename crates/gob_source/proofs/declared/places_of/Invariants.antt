-- What stands behind the place that is reached is known.
use Rattle.std.proofs.Common.{◌≤◌, length}
use Rattle.gob_source.specs.Places.{KnowsIds}
use Rattle.gob_source.proofs.declared.places_of.Given as goal

abbrev pub invariant-ids : goal.invariant-ids
invariant-ids l = record {
  within : l.left ≤ length l.ids;
  known : KnowsIds l.left l.ids l.places.entries;
}

abbrev pub decreases-ids : goal.decreases-ids
decreases-ids l = l.left
