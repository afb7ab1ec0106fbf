use Rattle.gob_types.specs.Defined.{types}
use Rattle.gob_read.specs.Calls.UnderWay.{FitsTable}
use Rattle.gob_read_tests.proofs.held.held_after_each.Given as goal

abbrev pub invariant-bytes : goal.invariant-bytes
invariant-bytes g l = FitsTable g.B.Builder.building (types l.table) l.reader
