use Rattle.std.proofs.Common.{◌≡◌, ◌++◌, drop}
use Rattle.gob_go_writer.specs.Machine.Places.{places_in}
use Rattle.gob_go_writer.proofs.tidy.places.places_of.Given as goal

abbrev pub invariant-loop-filling : goal.invariant-loop-filling
invariant-loop-filling l = places_in l.fillings ≡ l.places.items ++ places_in (drop l.filling-index l.fillings)
