-- How the program ends that keeps what isn't damaged behind the types of another stream. (docs/FORMAT.md, The program:
-- this project's own.)
use Rattle.std.specs.Prelude.{◌≡◌, ℕ, ◌≤◌, List, ◌++◌, length, Option, Some, Result}
use Rattle.std.specs.Io.KnownBytes.{append_known}
use Rattle.gob_types.specs.Base.{base_table}
use Rattle.gob_types.specs.Table.{Table}
use Rattle.gob_stream.specs.Bounds.{Bounds}
use Rattle.gob_filled.specs.Stream.{FilledItem, FilledStream}
use Rattle.gob_tool.specs.Showing.{CountsReadFaults, CountsWriteFaults}
use Rattle.gob_tool.specs.declared.fault.ToolFault.{ToolFault}
use Rattle.gob_split.specs.Definitions.{IsStreamOfDefinitions}
use Rattle.gob_split.specs.Laws.{definitions_among}
use Rattle.gob_salvage.specs.Behind.{BehindAnswers}
use Rattle.gob_salvage.specs.Running.{IsOf}
use Rattle.gob_salvage.specs.declared.keeping.Salvaged.{Salvaged}
use Rattle.gob.specs.Exit.{HasAnswered, IsTold, Seen}
use Rattle.gob.specs.declared.Exit.{Exit}

-- the bytes are a stream, and the front is what is kept of the stream of its definitions, behind which the types are
-- those behind the bytes: all of it, where it is within the limits
pub record IsFrontOf (L : Bounds) (bytes : List ℕ) (front : Salvaged) : Type 0 where
  pub items : List FilledItem
  pub table : Table
  pub stream : FilledStream base_table L items bytes table
  pub defining : List ℕ
  pub are : IsStreamOfDefinitions L table items defining
  pub kept : IsOf L defining front
  pub all : length defining ≤ L.item → length defining ≤ L.stream
      → (front.items ≡ length (definitions_among items)) × (front.bytes.items ≡ defining)

-- how a run ends, where the input, which has the front's bytes first, and the output were the first of each pair, and
-- are the second
pub record EndsBehind (L : Bounds) (front : Salvaged) (input now old new : Seen) (told : Option Salvaged)
    (result : Result (Unit {0}) Exit) : Type 0 where
  pub answer : Result (Unit {0}) ToolFault
  -- what it wrote and the writer behind it didn't take
  pub lost : List ℕ
  pub ended : Result (Unit {0}) ToolFault
  pub tells : IsTold answer lost ended
  pub answered : HasAnswered ended result
  -- a read or a write failed where it answers so
  pub reads : CountsReadFaults input.failures now.failures answer
  pub writes : CountsWriteFaults old.failures new.failures answer
  pub does : (bytes : List ℕ) → input.bytes ≡ Some (front.bytes.items ++ bytes)
      → BehindAnswers L front bytes now.bytes old.bytes (append_known new.bytes lost) told answer
