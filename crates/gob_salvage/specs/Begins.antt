-- Where a stream is found that begins with an item that is refused. For private clauses.
use Rattle.std.specs.Prelude.{◌≡◌, ℕ, ◌<◌, List, Option, Some}
use Rattle.gob_types.specs.Base.{base_table}
use Rattle.gob_types.specs.Table.{Table}
use Rattle.gob_stream.specs.Bounds.{Bounds}
use Rattle.gob_filled.specs.Stream.{FilledItem, FilledStream}
use Rattle.gob_salvage.specs.Breaks.{BeginsBehind}
use Rattle.gob_salvage.specs.declared.later.Clash.{Clash}
use Rattle.gob_salvage.specs.declared.later.Later.{Later}

-- the stream begins with the item, and not in front of all
pub record BeginsAt (clash : Option Clash) (later : Later) : Type 0 where
  pub item : Clash
  pub is : clash ≡ Some item
  pub here : later.at ≡ item.at
  pub some : 0 < later.at

-- so it begins, where these bytes are a stream, behind which the types are those that are in force
abbrev pub BeginsBehindThese : Bounds → (defining front bytes : List ℕ) → Type 0
BeginsBehindThese L defining front bytes = (items : List FilledItem) (T : Table)
    → FilledStream base_table L items defining T → BeginsBehind L T front bytes
