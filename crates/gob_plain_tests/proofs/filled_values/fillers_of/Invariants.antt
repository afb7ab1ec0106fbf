-- Those so far fill nils.
use Rattle.gob_plain.specs.Fillers.{AreFillers}
use Rattle.gob_plain_tests.proofs.filled_values.fillers_of.Given as goal

abbrev pub invariant-words : goal.invariant-words
invariant-words l = AreFillers l.all.items
