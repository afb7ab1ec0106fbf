-- The plain JSON of a value, straight from the bytes that spell it. (docs/FORMAT.md, Plain values.)
use Rattle.std.specs.Prelude.{◌≡◌, ◌≢◌, ℕ, List, Option, Some, None}
use Rattle.json.specs.Json.{Json}
use Rattle.json.specs.Lex.{tokens}
use Rattle.json.specs.Print.{print}
use Rattle.json.specs.Tree.{json_tokens}
use Rattle.gob_types.specs.Table.{Table}
use Rattle.gob_types.specs.declared.id.TypeId.{TypeId}
use Rattle.gob_types.specs.declared.kind.Kind.TheVariants as kind
use Rattle.gob_types.specs.declared.kind.Shape.{Shape}
use Rattle.gob_value.specs.Top.{SpellsTop}
use Rattle.gob_value.specs.Tree.{Tree}
use Rattle.gob_value.specs.Whole.{IsWhole}
use Rattle.gob_plain.specs.declared.style.Style.{Style}
use Rattle.gob_plain.specs.Filled.{SaysValue, listed_pairs}

-- the bytes are a value of the type no deeper than the limit, and the text is the compact one of JSON that says it in
-- this style, as which a reader of JSON reads it
abbrev pub IsBodyText : Style → Table → TypeId → (limit : ℕ) → (bytes text : List ℕ) → Type 0
IsBodyText style T t limit bytes text = (w : IsWhole T t limit bytes) × (j : Json) × SaysValue style T t w.value j
    × (text ≡ print (json_tokens j)) × (tokens text ≡ json_tokens j)

-- no value of the type is a map whose pairs are an array in this style, whatever its keys are
abbrev pub AreNotListed : Style → Table → TypeId → Type 0
AreNotListed style T t = (v : Tree) (b : List ℕ) → SpellsTop T t v b → listed_pairs style v ≡ None

-- the shape is not that of a map
abbrev pub IsNoMap : Option Shape → Type 0
IsNoMap o = (s : Shape) (k e : TypeId) → o ≡ Some s → s.kind ≢ kind.Map k e
