-- A value that stands whole at the front of a piece of a stream, no deeper than a limit, what stands behind it, and its
-- text: what was appended is the compact text of the value's JSON. (docs/FORMAT.md, Values; Depth; The JSON lines.)
use Rattle.std.specs.Prelude.{◌≡◌, ℕ, ◌≤◌, List, [], ◌∷◌, ◌++◌, codes}
use Rattle.std.specs.Fmt.{decimal}
use Rattle.serde_json.specs.Written.{compact_text}
use Rattle.gob_types.specs.declared.id.TypeId.{TypeId}
use Rattle.gob_types.specs.Table.{Table}
use Rattle.gob_value.specs.Tree.{Tree, depth}
use Rattle.gob_value.specs.Top.{SpellsTop}
use Rattle.gob_json.specs.Json.{put_json}

-- the bytes are a value of the type behind its tag, and the line of the value with its type was appended
pub record LineOfWhole (T : Table) (t : TypeId) (limit : ℕ) (bytes old new : List ℕ) : Type 0 where
  pub value : Tree
  pub spelled : SpellsTop T t value bytes
  pub within : depth value ≤ limit
  pub text : new ≡ old ++ (compact_text (put_json T t value) ++ 10 ∷ [])

-- {"type":ID,"value":
abbrev pub head_text : TypeId → List ℕ
head_text id = codes "{\"type\":" ++ (decimal id.0 ++ codes ",\"value\":")
