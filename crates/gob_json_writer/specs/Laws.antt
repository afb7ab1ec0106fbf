-- The laws of what values show. (They follow from docs/FORMAT.md, Fillings and segments.)
use Rattle.std.specs.Prelude.{◌≡◌, ℕ, List, ◌∷◌, ◌++◌}
use Rattle.serde_json.specs.Data.{Data}
use Rattle.gob_types.specs.Base.{base_table}
use Rattle.gob_types.specs.declared.id.TypeId.{TypeId}
use Rattle.gob_types.specs.Table.{Table}
use Rattle.gob_value.specs.Tree.{Tree}
use Rattle.gob_json.specs.Json.{put_json}
use Rattle.gob_json_writer.specs.NilsJson.{put_json_with}
use Rattle.gob_stream.specs.Bounds.{Bounds}
use Rattle.gob_filled.specs.Filled.{Filled, filled, no_filling, SpellsFilled}
use Rattle.gob_filled.specs.Stream.{FilledItem, putting, FilledStream}
use Rattle.gob_json_writer.specs.FilledJson.{FilledShows}

-- a filled value shows one tree, and each of its nils one JSON
abbrev pub ShowOnce : Type 0
ShowOnce = (T : Table) (t : TypeId) (w : Filled) (v other : Tree) (M N : ℕ → Data) → FilledShows T t w v M
    → FilledShows T t w other N → (v ≡ other) × ((n : ℕ) → M n ≡ N n)

-- the value shows this tree, and its nils these
pub record IsShown (T : Table) (t : TypeId) (w : Filled) : Type 0 where
  pub value : Tree
  pub nils : ℕ → Data
  pub shows : FilledShows T t w value nils

-- each filled value shows some, where the types are those behind it
abbrev pub ShowSome : Type 0
ShowSome = (base : Table) (L : Bounds) (T U : Table) (t : TypeId) (limit : ℕ) (w : Filled) (letters : List ℕ)
    → SpellsFilled base L T t limit w letters U → IsShown U t w

-- so each value of a stream does, where the types are those behind the stream
abbrev pub ShowInStreams : Type 0
ShowInStreams = (L : Bounds) (T : Table) (before behind : List FilledItem) (t : TypeId) (w : Filled) (bytes : List ℕ)
    → FilledStream base_table L (before ++ putting t w ∷ behind) bytes T → IsShown T t w

-- a value of which no nil is filled shows the JSON that it has in the format
abbrev pub ShowAsEver : Type 0
ShowAsEver = (T : Table) (t : TypeId) (v other : Tree) (N : ℕ → Data) → FilledShows T t (filled v no_filling) other N
    → (other ≡ v) × (put_json_with N T t other ≡ put_json T t v)
