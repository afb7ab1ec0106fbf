-- The numbers so far, with the rest of the skeleton.
use Rattle.std.proofs.Common.{◌≤◌, length}
use Rattle.gob_types.specs.Table.{Table}
use Rattle.gob_filled.specs.Filled.{Fillings}
use Rattle.gob_go.specs.Meaning.{AreFillings}
use Rattle.gob_filled_match.proofs.NumberingLaws.{NumbersSo}
use Rattle.gob_filled_match.proofs.numbering.number_fillings.Given as goal

abbrev pub invariant-loop-index : goal.invariant-loop-index
invariant-loop-index l =
    (l.from ≤ length l.skeleton)
    × ((T : Table) (fs : Fillings) → AreFillings T l.fillings fs → NumbersSo l.skeleton fs l.index l.from l.bytes.items)
