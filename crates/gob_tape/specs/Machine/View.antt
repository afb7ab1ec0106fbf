-- What a builder of tapes has under way, without where it lies in memory.
use Rattle.std.specs.Prelude.{reverse}
use Rattle.gob_tape.specs.declared.tape_builder.TapeBuilder.{TapeBuilder}
use Rattle.gob_tape.specs.Flat.{Flat}
use Rattle.gob_tape.specs.Machine.State.{State}

abbrev pub state_of : TapeBuilder → State
state_of b = record {
  nodes = b.nodes.items;
  pool = b.pool.items;
  begun = reverse b.begun.items;
  field = b.field;
  deepest = b.deepest;
}

-- the tape of it
abbrev pub flat_of : TapeBuilder → Flat
flat_of b = record { nodes = b.nodes.items; pool = b.pool.items; depth = b.deepest }
