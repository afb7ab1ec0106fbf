-- The line of the item of a value that stands whole in bytes and defines nothing, whatever its interfaces hold.
-- (docs/FORMAT.md, The JSON lines: this project's own.)
use Rattle.std.specs.Prelude.{◌≡◌, ℕ, List, [], ◌∷◌, ◌++◌}
use Rattle.serde_json.specs.Data.{Data}
use Rattle.serde_json.specs.Written.{compact_text}
use Rattle.gob_num.specs.Unsigned.{AreBytes}
use Rattle.gob_types.specs.declared.id.TypeId.{TypeId}
use Rattle.gob_types.specs.Table.{Table}
use Rattle.gob_value.specs.Tree.{Tree}
use Rattle.gob_stream.specs.Bounds.{Bounds}
use Rattle.gob_filled.specs.Filled.{Filled, filled, Fillings, no_filling, filling, no_definitions, SpellsFilled}
use Rattle.gob_json_writer.specs.NilsJson.{put_json_with}
use Rattle.gob_json_writer.specs.FilledJson.{FilledShows}

mutual
  -- no definition stands in the value
  pub data DefinesNothing : Filled → Type 0 where
    defines_nothing : {v : Tree} {fs : Fillings} → DefineNothing fs → DefinesNothing (filled v fs)

  -- nor in the fillings
  pub data DefineNothing : Fillings → Type 0 where
    none_defines : DefineNothing no_filling
    and_defines : {place : ℕ} {name : List ℕ} {u : TypeId} {w : Filled} {fs : Fillings} → DefinesNothing w
        → DefineNothing fs → DefineNothing (filling place name no_definitions u w fs)

-- the bytes are a value of the type behind its tag, which defines nothing, and the text is the line of the value
pub record FilledLine (T : Table) (t : TypeId) (limit : ℕ) (bytes text : List ℕ) : Type 0 where
  pub are_bytes : AreBytes bytes
  pub value : Filled
  pub spelled : (base : Table) (L : Bounds) → SpellsFilled base L T t limit value bytes T
  pub defines : DefinesNothing value
  pub tree : Tree
  pub nils : ℕ → Data
  pub shows : FilledShows T t value tree nils
  pub text_is : text ≡ compact_text (put_json_with nils T t tree) ++ 10 ∷ []
