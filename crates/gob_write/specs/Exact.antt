-- What the lines of `show` say where interfaces hold nothing: items of the format, as it is documented.
-- (docs/FORMAT.md, The JSON lines.)
use Rattle.std.specs.Prelude.{ℕ, List, [], ◌∷◌}
use Rattle.json.specs.Lex.{tokens}
use Rattle.json.specs.Token.{Token}
use Rattle.gob_num.specs.Unsigned.{AreBytes}
use Rattle.gob_types.specs.Base.{base_table}
use Rattle.gob_types.specs.Definable.{IsDefinable}
use Rattle.gob_types.specs.Ready.{IsReady}
use Rattle.gob_types.specs.Table.{Table}
use Rattle.gob_types.specs.declared.id.TypeId.{TypeId}
use Rattle.gob_types.specs.declared.kind.Shape.{Shape}
use Rattle.gob_types.specs.declared.reason.Reason.{Reason}
use Rattle.gob_value.specs.Described.{described}
use Rattle.gob_value.specs.Tree.{Tree}
use Rattle.gob_json.specs.Json.{put_json}
use Rattle.gob_stream.specs.Bounds.{Bounds}
use Rattle.gob_stream.specs.Item.{StreamItem, defines, puts}
use Rattle.gob_stream.specs.Stream.{IsItem}
use Rattle.gob_stream.specs.WriterRefusal.{RefusesItem, RefusesType}
use Rattle.gob_lines.specs.Definition.{IsDefinitionJson}
use Rattle.gob_lines.specs.Numbers.{IsWithTexts, ReadsSome}
use Rattle.gob_go_lines.specs.Lines.{TellsUnready}
use Rattle.gob_write.specs.Grammar.{Grammar}

-- the first of the old tokens are those of the JSON of the value with its type, in which texts of digits may stand for
-- numbers
abbrev pub ReadsValue : Table → TypeId → Tree → (old new : List Token) → Type 0
ReadsValue T id v old new = ReadsSome (λ j. IsWithTexts j (put_json T id v)) old new

-- by these types the line says this item: a definition by its shape, which has the one description that a writer makes,
-- or a value
pub data SaysExactItem (T : Table) (line : List ℕ) : StreamItem → Type 0 where
  says_shape : {id : TypeId} (s : Shape) → IsDefinable s → ReadsSome (IsDefinitionJson id s) (tokens line) []
      → SaysExactItem T line (defines id (described id s))
  says_value : {id : TypeId} {v : Tree} → IsReady T id → ReadsValue T id v (tokens line) []
      → SaysExactItem T line (puts id v)

-- no item that the line says goes on a stream of these types at this offset
abbrev pub SaysNoItem : Bounds → Table → (offset : ℕ) → (line : List ℕ) → Type 0
SaysNoItem L T offset line = (i : StreamItem) (b : List ℕ) (U : Table) → AreBytes b → SaysExactItem T line i
    → IsItem base_table L T offset i b U → ⊥

-- why no stream goes on with what the line says, where the types are those of T, at this offset
pub data RefusesExactLine (L : Bounds) (T : Table) (offset : ℕ) (line : List ℕ) : Reason → Type 0 where
  refuses_item : {i : StreamItem} {r : Reason} → SaysExactItem T line i → RefusesItem base_table L T offset i r
      → RefusesExactLine L T offset line r
  refuses_type : (id : TypeId) {r : Reason} → TellsUnready T id (tokens line) → RefusesType T id r
      → RefusesExactLine L T offset line r

-- lines whose interfaces are nil
abbrev pub exact_lines : Bounds → Grammar StreamItem
exact_lines L = record {
  says = λ T line i. SaysExactItem T line i;
  is = λ T offset i b U. IsItem base_table L T offset i b U;
  says_none = λ T offset line. SaysNoItem L T offset line;
  refuses = λ T offset line r. RefusesExactLine L T offset line r;
}
