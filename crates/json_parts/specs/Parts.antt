-- JSON whose parts stand alone: the elements of an array, or the pairs of an array of pairs. (RFC 8259, section 5;
-- docs/FORMAT.md, Plain values: this project's own.)
use Rattle.std.specs.Prelude.{◌≡◌, ℕ, Bool, true, false, List, [], ◌∷◌, codes}
use Rattle.json.specs.Json.{Json, Items, Members}
use Rattle.json.specs.Json as json
use Rattle.json.specs.Lex.{tokens}
use Rattle.json.specs.Print.{print}
use Rattle.json.specs.Token.{Token}
use Rattle.json.specs.Tree.{json_tokens, items_tokens}
use Rattle.json_parts.specs.declared.parts.Form.{Form}
use Rattle.json_parts.specs.declared.parts.Form.TheVariants as form

abbrev pub elements : Items → List Json
elements json.no_items = []
elements (json.item j js) = j ∷ elements js

-- a member for each item, in order: the first by this name, and those behind it by "value"
abbrev pub named : List ℕ → Items → Members
named name json.no_items = json.no_members
named name (json.item j js) = json.member name j (named (codes "value") js)

-- {"key":k,"value":v} of [k,v]; what is no array stays as it is
abbrev pub pair_json : Json → Json
pair_json (json.array js) = json.object (named (codes "key") js)
pair_json j = j

abbrev pub pairs : Items → List Json
pairs json.no_items = []
pairs (json.item j js) = pair_json j ∷ pairs js

-- the parts of this form, in order; JSON that has none of the form is one itself
abbrev pub parts_of : Form → Json → List Json
parts_of form.Elements (json.array js) = elements js
parts_of form.Pairs (json.array js) = pairs js
parts_of _ j = j ∷ []

-- ---- handed out one behind another

-- in these tokens these parts are left, with the closing bracket
pub data HasLeft : Form → List Token → List Json → Type 0 where
  elements_left : {ts : List Token} {left : List Json} (js : Items)
      → ts ≡ items_tokens js → left ≡ elements js → HasLeft form.Elements ts left
  pairs_left : {ts : List Token} {left : List Json} (js : Items)
      → ts ≡ items_tokens js → left ≡ pairs js → HasLeft form.Pairs ts left

-- the text is the compact text of the JSON, and a reader reads that JSON in it
pub record IsText (j : Json) (text : List ℕ) : Type 0 where
  pub printed : text ≡ print (json_tokens j)
  pub read : tokens text ≡ json_tokens j

-- of the parts that were left this is the first, and these tokens have the others
pub record IsFirst (f : Form) (ts : List Token) (left : List Json) (text : List ℕ) : Type 0 where
  pub part : Json
  pub more : List Json
  pub first : left ≡ part ∷ more
  pub text_of_it : IsText part text
  pub others : HasLeft f ts more

-- ---- found

-- JSON whose first token this is has parts
abbrev pub opens : Token → Bool
opens Token.begin_array = true
opens _ = false
