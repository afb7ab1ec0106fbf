-- The definitions so far are done, and what is known stays.
use Rattle.std.proofs.Common.{take}
use Rattle.gob_go_types.specs.Machine.{AllDone, Keeps, Sound}
use Rattle.gob_go_types.proofs.types.finish.Given as goal

abbrev pub invariant-slots : goal.invariant-slots
invariant-slots l = record {
  sound : Sound l.code.source.now l.numbers;
  keeps : Keeps l.fn.numbers l.numbers;
  done : AllDone (take l.at l.numbers.slots.items);
}
