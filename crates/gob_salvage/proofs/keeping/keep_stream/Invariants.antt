-- What is kept of the bytes up to the place, behind the front.
use Rattle.std.proofs.Common.{◌-◌, length}
use Rattle.gob_stream.specs.Bounds.{within_trees}
use Rattle.gob_salvage.specs.Salvage.{Front}
use Rattle.gob_salvage.specs.Keeping.{BreaksIn, IsKeeping, started_with}
use Rattle.gob_salvage.proofs.keeping.keep_stream.Given as goal

abbrev pub invariant-items : goal.invariant-items
invariant-items l = record {
  first : Front (within_trees l.fn.limits) l.front;
  keeping : IsKeeping (started_with first) l.keeper l.bytes;
  later : BreaksIn (started_with first) l.keeper l.bytes;
}

abbrev pub decreases-items : goal.decreases-items
decreases-items l = length l.bytes - l.keeper.at
