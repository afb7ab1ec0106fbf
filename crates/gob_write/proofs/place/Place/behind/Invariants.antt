-- The place behind all bytes is that behind those that are left.
use Rattle.std.proofs.Common.{◌≡◌, drop}
use Rattle.gob_write.specs.Place.{place_from}
use Rattle.gob_write.proofs.place.Place.behind.Given as goal

abbrev pub invariant-bytes : goal.invariant-bytes
invariant-bytes l = place_from l.fn.self l.bytes ≡ place_from l.place (drop l.byte-index l.bytes)
