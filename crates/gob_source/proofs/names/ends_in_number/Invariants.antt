-- What the rest says is said of all.
use Rattle.std.proofs.Common.{◌≡◌, drop}
use Rattle.gob_source.specs.Names.{ends_in_number}
use Rattle.gob_source.proofs.names.ends_in_number.Given as goal

abbrev pub invariant-loop-index : goal.invariant-loop-index
invariant-loop-index l = ends_in_number (drop l.index l.name) ≡ ends_in_number l.name
