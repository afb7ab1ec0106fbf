-- What stands behind the place that is reached is known.
use Rattle.std.proofs.Common.{◌≤◌, length}
use Rattle.gob_source.specs.Places.{KnowsNamed}
use Rattle.gob_source.proofs.declared.names_of.Given as goal

abbrev pub invariant-names : goal.invariant-names
invariant-names g l = record {
  within : l.left ≤ length l.ids;
  known : KnowsNamed (g.S.Shapes.table l.shapes) l.left l.ids l.names.entries;
}

abbrev pub decreases-names : goal.decreases-names
decreases-names g l = l.left
