-- What is taken off the end stands in the definitions, turned round.
use Rattle.std.proofs.Common.{◌≡◌, ◌++◌, length}
use Rattle.std.specs.Prelude.{reverse}
use Rattle.gob_go_types.specs.Machine.{AllDone, finished}
use Rattle.gob_go_types.proofs.numbers.definitions_of.Given as goal

abbrev pub invariant-slots : goal.invariant-slots
invariant-slots l = record {
  done : AllDone l.left.items;
  all : finished l.left.items ++ reverse l.definitions.items ≡ finished l.fn.slots.items;
}

abbrev pub decreases-slots : goal.decreases-slots
decreases-slots l = length l.left.items
