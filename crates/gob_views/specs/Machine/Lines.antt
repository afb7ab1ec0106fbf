-- The lines of values that stand whole. For private clauses.
use Rattle.std.specs.Prelude.{ℕ, List, []}
use Rattle.json.specs.Json.{Json}
use Rattle.gob_num.specs.Unsigned.{AreBytes}
use Rattle.gob_types.specs.Table.{Table}
use Rattle.gob_types.specs.declared.id.TypeId.{TypeId}
use Rattle.gob_value.specs.Whole.{IsWhole}
use Rattle.gob_go.specs.Whole.{IsFilledWhole}
use Rattle.gob_plain.specs.Filled.{SaysValue}
use Rattle.gob_plain.specs.HeldPlain.{SaysFilled}
use Rattle.gob_plain.specs.declared.style.Style.{Style}
use Rattle.gob_views.specs.Values.{AreLinesBehind, IsLineOf, SaysStyled, line_jsons}
use Rattle.gob_views.specs.declared.value_line.ValueLines.{ValueLines}

-- the bytes are a value of the type no deeper than the limit, which defines nothing, and the text is its lines
pub record IsBodyLine (lines : ValueLines) (T : Table) (t : TypeId) (limit : ℕ) (bytes text : List ℕ) : Type 0 where
  pub are_bytes : AreBytes bytes
  pub whole : IsFilledWhole T t limit bytes
  pub line : IsLineOf lines T t (SaysStyled lines (λ style. SaysFilled lines.tagged style T t whole.value)) text

-- the bytes are one in which no interface holds another, and these are the lines of JSON that says it in this style
abbrev pub AreStyledLines : ValueLines → Style → Table → TypeId → (limit : ℕ) → (bytes line : List ℕ) → Type 0
AreStyledLines lines style T t limit bytes line = (w : IsWhole T t limit bytes) × (j : Json)
    × SaysValue style T t w.value j × AreLinesBehind lines T t (line_jsons lines T t j) [] line
