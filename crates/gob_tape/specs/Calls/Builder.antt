-- The builder of tapes: which events it stands for, and what it makes of them.
-- (docs/LIBRARY.md, Tapes.)
use Rattle.gob_read.specs.Building.{Building}
use Rattle.gob_tape.specs.Meaning.{Means}
use Rattle.gob_tape.specs.Machine.Received.{AreTaped}
use Rattle.gob_tape.specs.Machine.View.{state_of}
use Rattle.gob_tape.specs.Flat.{Flat}
use Rattle.gob_tape.specs.declared.tape_builder.TapeBuilder.{TapeBuilder}

abbrev pub tape_building : Building TapeBuilder Flat 65536
tape_building = record {
  received = λ builder us. AreTaped (state_of builder) builder.held us;
  means = λ tape v. Means tape v;
}
