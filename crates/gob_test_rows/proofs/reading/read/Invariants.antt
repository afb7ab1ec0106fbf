use Rattle.std.proofs.Common.{◌≤◌, length}
use Rattle.gob_types.specs.Defined.{types}
use Rattle.gob_read.proofs.PublicLaws.{IsPushed}
use Rattle.gob_test_rows.proofs.reading.read.Given as goal

abbrev pub invariant-pieces : goal.invariant-pieces
invariant-pieces g l = record {
  within : l.taken ≤ length l.bytes;
  pushed : IsPushed (types l.table) (record { 0 = l.fn.body.id }) g.B.Builder.building.received l.reader.run;
}
