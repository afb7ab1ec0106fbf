-- What a writer has written is a stream of what was put.
-- (docs/FORMAT.md, Fillings and segments.)
use Rattle.std.specs.Prelude.{ℕ, List}
use Rattle.gob_types.specs.Base.{base_table}
use Rattle.gob_stream.specs.Bounds.{within_trees}
use Rattle.gob_filled.specs.Outcome.{FilledOutcome, the_end}
use Rattle.gob_filled.specs.Stream.{FilledItem}
use Rattle.gob_go_writer.specs.Calls.Writer.{HasPut, limits_of}
use Rattle.gob_go_writer.specs.declared.writer.GoWriter.{GoWriter}

-- under the writer's limits these items and no refusal are the outcome of the bytes
abbrev pub PutIsRead : Type 0
PutIsRead = (w : GoWriter) (items : List FilledItem) (bytes : List ℕ) → HasPut w items bytes
    → FilledOutcome base_table (within_trees (limits_of w)) bytes items the_end
