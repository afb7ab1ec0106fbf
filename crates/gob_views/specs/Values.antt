-- What the run that prints the values of a stream answers, and what it has written then. (docs/FORMAT.md, Plain values;
-- The program: this project's own.)
use Rattle.std.specs.Prelude.{◌≡◌, ◌⊎◌, ⊤, ℕ, All, List, [], ◌∷◌, ◌++◌, Option, Some, None, Result, flat_map}
use Rattle.std.specs.Prelude.{if◌then◌else◌}
use Rattle.json.specs.Json.{Json}
use Rattle.json.specs.Lex.{tokens}
use Rattle.json.specs.Print.{print}
use Rattle.json.specs.Tree.{json_tokens}
use Rattle.json_controls.specs.Controls.{shown_text}
use Rattle.json_parts.specs.Parts.{parts_of}
use Rattle.json_parts.specs.declared.parts.Form.{Form}
use Rattle.json_parts.specs.declared.parts.Form.TheVariants as parts
use Rattle.gob_types.specs.declared.id.TypeId.{TypeId}
use Rattle.gob_types.specs.Table.{Table, shape_of}
use Rattle.gob_types.specs.declared.kind.Kind.{Kind}
use Rattle.gob_types.specs.declared.kind.Kind.TheVariants as kinds
use Rattle.gob_types.specs.declared.kind.Shape.{Shape}
use Rattle.gob_stream.specs.Bounds.{Bounds}
use Rattle.gob_filled.specs.Stream.{FilledItem, defining, putting}
use Rattle.gob_plain.specs.HeldPlain.{SaysFilled, tagged_json}
use Rattle.gob_tool.specs.declared.fault.ToolFault.{ToolFault}
use Rattle.gob_tool.specs.TextsGo.{TextsAnswers}
use Rattle.gob_words.specs.Words.{IsNumber, text_of}
use Rattle.gob_words.specs.declared.kinds.OpaqueKind.{OpaqueKind}
use Rattle.gob_words.specs.declared.kinds.OpaqueKind.TheVariants as kind
use Rattle.gob_words.specs.declared.kinds.TypeKind.{TypeKind}
use Rattle.gob_plain.specs.declared.opaque.Content.{Content}
use Rattle.gob_plain.specs.declared.opaque.Content.TheVariants as content
use Rattle.gob_plain.specs.declared.style.Style.{Style}
use Rattle.gob_plain.specs.declared.style.Taken.{Taken}
use Rattle.gob_views.specs.declared.value_line.ValueLines.{ValueLines}

-- the name of a type, where it is one
abbrev pub name_of : Option Shape → List ℕ
name_of None = []
name_of (Some shape) = shape.name

abbrev pub type_name : Table → TypeId → List ℕ
type_name T t = name_of (shape_of T t)

-- the values of a type are shown: without a word those of each, else those of the type whose name or id the word is
abbrev pub IsChosen : Option (List ℕ) → Table → TypeId → Type 0
IsChosen None T t = ⊤
IsChosen (Some word) T t = (word ≡ type_name T t) ⊎ IsNumber (Some word) 0 t.0

-- ---- what is said of types

-- what bytes of this kind are taken for
abbrev pub content_of : OpaqueKind → Content
content_of kind.Time = content.Time
content_of kind.BigInt = content.Int
content_of kind.BigFloat = content.Float
content_of kind.BigRat = content.Rat
content_of kind.Uuid = content.Uuid
content_of kind.NetipAddr = content.Address
content_of kind.Text = content.Text
content_of kind.Base64 = content.Bytes

-- what is said of types is taken so, one behind another
pub data AreTaken : List TypeKind → List Taken → Type 0 where
  none_taken : AreTaken [] []
  then_taken : {said : TypeKind} {all : List TypeKind} {taken : Taken} {others : List Taken}
      → taken.id.0 ≡ said.id → taken.content ≡ content_of said.kind → AreTaken all others
      → AreTaken (said ∷ all) (taken ∷ others)

-- the style in which the lines show values
pub record IsStyleOf (lines : ValueLines) (style : Style) : Type 0 where
  pub zeros : style.zeros ≡ lines.zeros
  pub raw : style.raw ≡ lines.raw
  pub taken : AreTaken lines.kinds.now style.taken.now
  pub pairs : style.pairs ≡ lines.each

-- this is said in the style of the lines
abbrev pub SaysStyled : ValueLines → (Style → Json → Type 0) → Json → Type 0
SaysStyled lines Says j = (style : Style) × IsStyleOf lines style × Says style j

-- ---- lines

-- the JSON that is written of a value, by the name of its type where that is shown: {"NAME":value}
abbrev pub shown_json : ValueLines → Table → TypeId → Json → Json
shown_json lines T t j = tagged_json lines.typed (type_name T t) j

-- the line of JSON that says a value of the type, or a part of one: the compact text, with its control characters
-- escaped, and a line feed
abbrev pub text_shown : ValueLines → Table → TypeId → Json → List ℕ
text_shown lines T t j = shown_text (print (json_tokens (shown_json lines T t j)))

abbrev pub json_line : ValueLines → Table → TypeId → Json → List ℕ
json_line lines T t j = text_shown lines T t j ++ 10 ∷ []

-- as which a reader of JSON reads it
abbrev pub IsReadBack : ValueLines → Table → TypeId → Json → Type 0
IsReadBack lines T t j = tokens (text_shown lines T t j) ≡ json_tokens (shown_json lines T t j)

-- the parts of a value of this kind: the elements of a list, and the pairs of a map
abbrev pub parts_form : Kind → Option Form
parts_form (kinds.Array e n) = Some parts.Elements
parts_form (kinds.Slice e) = Some parts.Elements
parts_form (kinds.Map k e) = Some parts.Pairs
parts_form _ = None

abbrev pub parts_form_at : Option Shape → Option Form
parts_form_at None = None
parts_form_at (Some shape) = parts_form shape.kind

-- those that stand on lines of their own, where each does
abbrev pub form_of : ValueLines → Table → TypeId → Option Form
form_of lines T t = if lines.each then parts_form_at (shape_of T t) else None

abbrev pub parts_in : Option Form → Json → List Json
parts_in None j = j ∷ []
parts_in (Some form) j = parts_of form j

-- what stands on a line each, of the JSON that says a value of the type
abbrev pub line_jsons : ValueLines → Table → TypeId → Json → List Json
line_jsons lines T t j = parts_in (form_of lines T t) j

-- these lines, in order, are behind what was there, and read back
pub record AreLinesBehind (lines : ValueLines) (T : Table) (t : TypeId) (js : List Json) (old new : List ℕ) : Type
    0 where
  pub made : new ≡ old ++ flat_map (json_line lines T t) js
  pub read : All (IsReadBack lines T t) js

-- what is written of a value of the type, of which this JSON is said: where its values are shown the lines of that
-- JSON, else nothing
pub data IsLineOf (lines : ValueLines) (T : Table) (t : TypeId) (Says : Json → Type 0) : List ℕ → Type 0 where
  is_shown : {text : List ℕ} → IsChosen (text_of lines.only) T t → (json : Json) → Says json
      → AreLinesBehind lines T t (line_jsons lines T t json) [] text → IsLineOf lines T t Says text
  is_left_out : ¬ IsChosen (text_of lines.only) T t → IsLineOf lines T t Says []

-- what is written of an item, where the types behind it are those of the table: of a value JSON that says it, and
-- nothing of a definition
abbrev pub IsPlainLine : ValueLines → Table → FilledItem → List ℕ → Type 0
IsPlainLine lines T (defining id described) line = line ≡ []
IsPlainLine lines T (putting t w) line =
    IsLineOf lines T t (SaysStyled lines (λ style. SaysFilled lines.tagged style T t w)) line

-- how the run ends, over an input with these bytes left and an output with the old bytes: the lines of the items went
-- out, and nothing else, or after a failed write a prefix of them
abbrev pub ValuesAnswers : ValueLines → Bounds → (bytes : List ℕ) → (now old new : Option (List ℕ))
    → Result (Unit {0}) ToolFault → Type 0
ValuesAnswers lines L bytes now old new result = TextsAnswers (IsPlainLine lines) L bytes now old new result
