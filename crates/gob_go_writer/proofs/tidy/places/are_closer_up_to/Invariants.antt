use Rattle.std.proofs.Common.{◌≡◌, length, drop}
use Rattle.gob_go_writer.specs.Machine.Places.{AreCloser}
use Rattle.gob_go_writer.proofs.tidy.places.are_closer_up_to.Given as goal

abbrev pub invariant-nils : goal.invariant-nils
invariant-nils l = record {
  same : length l.places ≡ length l.nils;
  closer : AreCloser l.end.from l.end.to l.start.from l.start.to (drop l.i l.nils) (drop l.i l.places)
      → AreCloser l.end.from l.end.to 0 0 l.nils l.places;
}
