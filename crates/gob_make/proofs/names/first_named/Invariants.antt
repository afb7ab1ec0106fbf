-- No field before has the name.
use Rattle.std.proofs.Common.{◌<◌, ℕ}
use Rattle.gob_make.specs.Plain.{HasName}
use Rattle.gob_make.proofs.names.first_named.Given as goal

abbrev pub invariant-numbers : goal.invariant-numbers
invariant-numbers l = (k : ℕ) → k < l.number → ¬ HasName l.types k l.name
