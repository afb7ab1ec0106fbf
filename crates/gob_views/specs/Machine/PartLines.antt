-- The lines of the parts of a value that stands whole, one part after another. For private clauses.
use Rattle.std.specs.Prelude.{◌≡◌, ℕ, ◌+◌, ◌≤◌, true, List, ◌∷◌, ◌++◌, All, drop, flat_map, length, take}
use Rattle.std.specs.Prelude.{Some}
use Rattle.json.specs.Json.{Items, Json}
use Rattle.json_parts.specs.Parts.{elements, pairs}
use Rattle.gob_num.specs.Unsigned.{IsUnsigned}
use Rattle.gob_types.specs.Table.{Table, shape_of}
use Rattle.gob_types.specs.declared.id.TypeId.{TypeId}
use Rattle.gob_types.specs.declared.kind.Kind.TheVariants as kind
use Rattle.gob_types.specs.declared.kind.Shape.{Shape}
use Rattle.gob_value.specs.Spelling.{SpellsEach, SpellsPairs}
use Rattle.gob_value.specs.Top.{SpellsTop}
use Rattle.gob_value.specs.Tree.{Pairs, Tree, Trees, many, pair_count, pairs_depth, tree_count}
use Rattle.gob_value.specs.Tree.{trees_depth}
use Rattle.gob_value.specs.Tree as value
use Rattle.gob_value.specs.WholeParts.{HasElements, HasEntries}
use Rattle.gob_plain.specs.Filled.{SaysValue, shown_all, shown_pairs}
use Rattle.gob_plain.specs.OpaqueText.{content_in}
use Rattle.gob_plain.specs.Plain.{SayEachWith, SayPairsWith, all_null}
use Rattle.gob_plain.specs.declared.style.Style.{Style}
use Rattle.gob_views.specs.Values.{AreLinesBehind, IsReadBack, json_line, line_jsons}
use Rattle.gob_views.specs.declared.body_lines.PartTypes.{PartTypes}
use Rattle.gob_views.specs.declared.body_lines.PartTypes.TheVariants as part
use Rattle.gob_views.specs.declared.body_lines.PartsAhead.{PartsAhead}
use Rattle.gob_views.specs.declared.value_line.ValueLines.{ValueLines}

-- ---- JSON of parts

-- in this style these say the elements
abbrev pub SayElements : Style → Table → TypeId → Trees → List Json → Type 0
SayElements style T e vs js =
    (items : Items) × SayEachWith all_null (content_in style) T e (shown_all style T e vs) items × (js ≡ elements items)

-- these say the entries
abbrev pub SayEntries : Style → Table → (k e : TypeId) → Pairs → List Json → Type 0
SayEntries style T k e ps js = (items : Items)
    × SayPairsWith all_null (content_in style) T k e (shown_pairs style T k e ps) items × (js ≡ pairs items)

-- ---- lines of parts

-- the text has the lines of such JSON
pub record AreLines (lines : ValueLines) (T : Table) (t : TypeId) (Say : List Json → Type 0) (text : List ℕ) : Type
    0 where
  pub jsons : List Json
  pub said : Say jsons
  pub made : text ≡ flat_map (json_line lines T t) jsons
  pub read : All (IsReadBack lines T t) jsons

-- the bytes are so many elements, and the text has their lines
pub record AreElements (lines : ValueLines) (style : Style) (T : Table) (t : TypeId) (limit : ℕ) (e : TypeId)
    (bytes : List ℕ) (count : ℕ) (text : List ℕ) : Type 0 where
  pub values : Trees
  pub spelled : SpellsEach T e values bytes
  pub within : trees_depth values ≤ limit
  pub counted : tree_count values ≡ count
  pub printed : AreLines lines T t (SayElements style T e values) text

-- they are so many entries
pub record AreEntries (lines : ValueLines) (style : Style) (T : Table) (t : TypeId) (limit : ℕ) (k e : TypeId)
    (bytes : List ℕ) (count : ℕ) (text : List ℕ) : Type 0 where
  pub values : Pairs
  pub spelled : SpellsPairs T k e values bytes
  pub within : pairs_depth values ≤ limit
  pub counted : pair_count values ≡ count
  pub printed : AreLines lines T t (SayEntries style T k e values) text

abbrev pub AreParts : ValueLines → Style → Table → TypeId → (limit : ℕ) → PartTypes → (bytes : List ℕ) → (count : ℕ)
    → (text : List ℕ) → Type 0
AreParts lines style T t limit (part.Element e) bytes count text =
    AreElements lines style T t limit e bytes count text
AreParts lines style T t limit (part.Entry k e) bytes count text =
    AreEntries lines style T t limit k e bytes count text

-- ---- one behind another

-- so many parts have so many of the bytes, and their lines were appended
pub record ArePut (Are : (bytes : List ℕ) → (count : ℕ) → (text : List ℕ) → Type 0) (bytes : List ℕ) (n size : ℕ)
    (old new : List ℕ) : Type 0 where
  pub made : List ℕ
  pub behind : new ≡ old ++ made
  pub are : Are (take size bytes) n made

-- each part stands on a line of its own, and JSON is made for that
abbrev pub PrintsEach : ValueLines → Style → Type 0
PrintsEach lines style = (lines.each ≡ true) × (style.pairs ≡ true)

-- the lines of JSON that says the value were appended
abbrev pub SaysLines : ValueLines → Style → Table → TypeId → Tree → (old new : List ℕ) → Type 0
SaysLines lines style T t v old new =
    (j : Json) × SaysValue style T t v j × AreLinesBehind lines T t (line_jsons lines T t j) old new

-- so many of these parts stand whole at the front of the bytes, up to this end
abbrev pub HasWholeParts : Table → PartTypes → (limit count : ℕ) → (bytes : List ℕ) → (end : ℕ) → Type 0
HasWholeParts T (part.Element e) limit count bytes end = HasElements T e limit count bytes end
HasWholeParts T (part.Entry k e) limit count bytes end = HasEntries T k e limit count bytes end

-- ---- in a value

-- the type is a slice of these
pub record IsSliceType (T : Table) (t e : TypeId) : Type 0 where
  pub shape : Shape
  pub known : shape_of T t ≡ Some shape
  pub is : shape.kind ≡ kind.Slice e

-- it is a map of these
pub record IsMapType (T : Table) (t k e : TypeId) : Type 0 where
  pub shape : Shape
  pub known : shape_of T t ≡ Some shape
  pub is : shape.kind ≡ kind.Map k e

-- its values have these parts
abbrev pub HasParts : Table → TypeId → PartTypes → Type 0
HasParts T t (part.Element e) = IsSliceType T t e
HasParts T t (part.Entry k e) = IsMapType T t k e

-- behind the first bytes so many parts are the value that the bytes are
abbrev pub EndInParts : Table → TypeId → (bytes : List ℕ) → PartTypes → (count begin : ℕ) → Type 0
EndInParts T t bytes (part.Element e) count begin =
    (vs : Trees) → tree_count vs ≡ count → SpellsEach T e vs (drop begin bytes) → SpellsTop T t (many vs) bytes
EndInParts T t bytes (part.Entry k e) count begin = (ps : Pairs) → pair_count ps ≡ count
    → SpellsPairs T k e ps (drop begin bytes) → SpellsTop T t (value.pairs ps) bytes

-- the parts of the value that the bytes are
pub record ArePartsIn (T : Table) (t : TypeId) (bytes : List ℕ) (all : PartsAhead) : Type 0 where
  pub inside : all.begin ≤ length bytes
  pub type_is : HasParts T t all.parts
  pub counted : List ℕ
  pub counts : IsUnsigned all.count counted
  pub whole : bytes ≡ 0 ∷ (counted ++ drop all.begin bytes)
  pub ends : EndInParts T t bytes all.parts all.count all.begin
