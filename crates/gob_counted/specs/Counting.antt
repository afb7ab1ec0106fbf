-- What there is in a stream: its items, the types that they define, the values among them, and the bytes.
-- (docs/FORMAT.md, The program: this project's own.)
use Rattle.std.specs.Prelude.{◌≡◌, ℕ, ◌++◌, List, length}
use Rattle.gob_types.specs.Defined.{definition_count}
use Rattle.gob_types.specs.Table.{Table}
use Rattle.gob_stream.specs.Bounds.{Bounds}
use Rattle.gob_stream.specs.Grammar.{StreamIn}
use Rattle.gob_stream.specs.Stepping.{Stepping}
use Rattle.gob_counted.specs.Apart.{ValuesIn}
use Rattle.gob_counted.specs.declared.tally.Tally.{Tally}

-- the bytes are the stream of the items, and the tally is theirs
pub record IsTally {X I Told : Type 0} (d : Stepping X I Told) (L : Bounds) (items : List Told) (bytes : List ℕ)
    (tally : Tally) : Type 0 where
  pub table : Table
  pub stream : StreamIn d.grammar L items bytes table
  pub items_are : tally.items ≡ length items
  pub types_are : tally.types ≡ definition_count table
  pub values_are : ValuesIn d items tally.values
  pub bytes_are : tally.bytes ≡ length bytes

-- the bytes begin with the stream of the items, whose tally it is
pub record BeginsWithTally {X I Told : Type 0} (d : Stepping X I Told) (L : Bounds) (items : List Told)
    (bytes : List ℕ) (tally : Tally) : Type 0 where
  pub prefix : List ℕ
  pub rest : List ℕ
  pub whole : bytes ≡ prefix ++ rest
  pub is_theirs : IsTally d L items prefix tally
