-- The place is that behind as many bytes.
use Rattle.std.proofs.Common.{◌≡◌, take}
use Rattle.gob_write.specs.Place.{place_from}
use Rattle.gob_write.proofs.writer.value_place.Given as goal

abbrev pub invariant-blanks : goal.invariant-blanks
invariant-blanks l = l.place ≡ place_from l.fn.start (take l.byte-index l.text)
