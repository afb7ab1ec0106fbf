-- What stands behind the number that is reached is known.
use Rattle.std.proofs.Common.{◌≤◌, length}
use Rattle.gob_make.specs.Names.{KnowsNames}
use Rattle.gob_make.proofs.names.numbers_of.Given as goal

abbrev pub invariant-names : goal.invariant-names
invariant-names l = record {
  within : l.left ≤ length l.types;
  known : KnowsNames l.types l.left l.numbers;
}

abbrev pub decreases-names : goal.decreases-names
decreases-names l = l.left
