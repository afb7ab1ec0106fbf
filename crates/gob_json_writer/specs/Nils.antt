-- What the nils of values show, as the parts are gone over, and what a call answers that writes the JSON of parts.
-- (docs/FORMAT.md, The JSON lines.)
use Rattle.std.specs.Prelude.{◌≡◌, ℕ, ◌+◌, Option, Some, None, Result, OnOk}
use Rattle.json.specs.Written.{Written}
use Rattle.serde_json.specs.Data.{Data, null}
use Rattle.gob_types.specs.declared.id.TypeId.{TypeId}
use Rattle.gob_types.specs.Table.{Table}
use Rattle.gob_value.specs.Tree.{Tree}
use Rattle.gob_tape.specs.Flat.{Flat}
use Rattle.gob_tape.specs.Meaning.{Means}
use Rattle.gob_json_writer.specs.NilsJson.{value_json_with, put_json_with, interface_json}
use Rattle.gob_json_writer.specs.WritesJson.{WritesJson}
use Rattle.gob_json_writer.specs.declared.held.Held.{Held}

-- what stands in a nil shows this; null is nothing
pub data HeldShows {X : Type 0} (shows : Table → X → (ℕ → Data) → ℕ → Type 0) (T : Table) : Option (Held X) → Data
    → Type 0 where
  holds_none : HeldShows shows T None null
  holds : {v : Tree} {N : ℕ → Data} (held : Held X) → Means held.tape v → shows T held.nils N 0
      → HeldShows shows T (Some held) (interface_json held.name.items held.id (value_json_with N T held.id 0 v))

-- the JSON of the value of a tape with its type
pub data PutShows (T : Table) (id : TypeId) (tape : Flat) (shows : (ℕ → Data) → ℕ → Type 0) : Data → Type 0 where
  put_shows : {v : Tree} {N : ℕ → Data} → Means tape v → shows N 0 → PutShows T id tape shows (put_json_with N T id v)

-- the JSON of each value that is the one to be written, where its nils show what N has, and from then on those behind
-- its parts do
pub record WritesOn {E V : Type 0} (r : Result (Unit {0}) E) (old new : Written) (Is : V → Type 0)
    (from to : (ℕ → Data) → ℕ → Type 0) (count : V → ℕ) (json : (ℕ → Data) → ℕ → V → Data) : Type 0 where
  pub before : new.before ≡ old.before
  pub each : (v : V) (N : ℕ → Data) (n : ℕ) → Is v → from N n
      → WritesJson r old new (json N n v) × OnOk r (to N (n + count v))
