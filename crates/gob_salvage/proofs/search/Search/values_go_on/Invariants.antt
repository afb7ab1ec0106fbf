-- What stands one behind another so far.
use Rattle.std.proofs.Common.{◌+◌, ◌≤◌, List, length}
use Rattle.gob_types.specs.Defined.{types}
use Rattle.gob_stream.specs.Bounds.{within_trees}
use Rattle.gob_filled.specs.Stream.{FilledItem}
use Rattle.gob_salvage.specs.Evidence.{StandsUpTo}
use Rattle.gob_salvage.specs.Searching.{AreNoted, HasSpent}
use Rattle.gob_salvage.proofs.search.Search.values_go_on.Given as goal

abbrev pub invariant-items : goal.invariant-items
invariant-items l = record {
  few : l.row.values + l.row.others ≤ l.counter;
  inside : l.row.end ≤ length l.piece;
  spent : HasSpent l.fn.self l.self;
  stands : (kept : List FilledItem) → AreNoted l.fn.self.kept_types kept
      → StandsUpTo (within_trees l.fn.self.limits) (types l.table) kept l.piece l.row.values l.row.others l.row.end;
}
