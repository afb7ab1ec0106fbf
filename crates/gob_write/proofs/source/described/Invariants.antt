-- The definitions so far are described.
use Rattle.std.proofs.Common.{◌≡◌, take}
use Rattle.gob_write.specs.Making.{definitions_of}
use Rattle.gob_write.specs.Source.{defines_each}
use Rattle.gob_write.proofs.source.described.Given as goal

abbrev pub invariant-loop-defined : goal.invariant-loop-defined
invariant-loop-defined l = definitions_of l.definitions.items ≡ defines_each (take l.defined-index l.given)
