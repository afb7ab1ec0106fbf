-- The definitions that stand in front of another encoder's stream. For private clauses.
use Rattle.std.specs.Prelude.{◌⊎◌, ℕ, ◌+◌, ◌<◌, ◌≤◌, List, ◌++◌, length, take, Contains}
use Rattle.gob_types.specs.declared.id.TypeId.{TypeId}
use Rattle.gob_types.specs.Base.{base_table}
use Rattle.gob_types.specs.Table.{Table, IsDefined}
use Rattle.gob_stream.specs.Bounds.{Bounds}
use Rattle.gob_filled.specs.Stream.{FilledItem, FilledStream}
use Rattle.gob_salvage.specs.Breaks.{SaysNoMore}
use Rattle.gob_salvage.specs.Evidence.{AllDefine}
use Rattle.gob_salvage.specs.Salvage.{Front}

-- the bytes are a stream of definitions, and the types behind them are those of the table
pub record DefinesTypes (L : Bounds) (T : Table) (definitions : List ℕ) : Type 0 where
  pub items : List FilledItem
  pub stream : FilledStream base_table L items definitions T
  pub only : AllDefine items
  pub room : length definitions ≤ L.stream

-- they are one of definitions in force, of all ids but those
pub record IsWithout (L : Bounds) (T : Table) (ids front : List ℕ) : Type 0 where
  pub first : Front L front
  pub in_force : SaysNoMore first.types T
  pub but : (id : TypeId) → IsDefined T id → IsDefined first.types id ⊎ Contains ids id.0

-- of the ids each has a type
abbrev pub AreDefined : Table → List ℕ → Type 0
AreDefined T ids = (id : TypeId) → Contains ids id.0 → IsDefined T id

-- behind the front items stand at the front of the piece that define each of the ids
pub record StandsBehind (L : Bounds) (front piece ids : List ℕ) : Type 0 where
  pub all : List FilledItem
  pub behind : Table
  pub end : ℕ
  pub within : end ≤ length piece
  pub some : 0 < end
  pub stream : FilledStream base_table L all (front ++ take end piece) behind
  pub defined : AreDefined behind ids
  pub room : length front + length piece ≤ L.stream
