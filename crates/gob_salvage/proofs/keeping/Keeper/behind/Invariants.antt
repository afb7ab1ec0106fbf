-- What is kept of the front up to the place.
use Rattle.std.proofs.Common.{◌-◌, length}
use Rattle.gob_stream.specs.Bounds.{within_trees}
use Rattle.gob_salvage.specs.Keeping.{BreaksIn, from_nothing, IsKeeping}
use Rattle.gob_salvage.proofs.keeping.Keeper.behind.Given as goal

abbrev pub invariant-front : goal.invariant-front
invariant-front l = record {
  keeping : IsKeeping (from_nothing (within_trees l.fn.limits)) l.keeper l.front;
  later : BreaksIn (from_nothing (within_trees l.fn.limits)) l.keeper l.front;
}

abbrev pub decreases-front : goal.decreases-front
decreases-front l = length l.front - l.keeper.at
