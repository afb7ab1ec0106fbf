-- The plain JSON of a value whose interfaces may hold others, straight from the bytes that spell it.
-- (docs/FORMAT.md, Plain values; Fillings and segments.)
use Rattle.std.specs.Prelude.{◌≡◌, ℕ, Bool, List}
use Rattle.json.specs.Json.{Json}
use Rattle.json.specs.Lex.{tokens}
use Rattle.json.specs.Print.{print}
use Rattle.json.specs.Tree.{json_tokens}
use Rattle.gob_num.specs.Unsigned.{AreBytes}
use Rattle.gob_types.specs.Table.{Table}
use Rattle.gob_types.specs.declared.id.TypeId.{TypeId}
use Rattle.gob_go.specs.Whole.{IsFilledWhole}
use Rattle.gob_plain.specs.declared.style.Style.{Style}
use Rattle.gob_plain.specs.HeldPlain.{SaysFilled}

-- the bytes are such a value of the type no deeper than the limit, which defines nothing, and the text is the compact
-- one of JSON that says it in this style, as which a reader of JSON reads it
pub record IsFilledText (tagged : Bool) (style : Style) (T : Table) (t : TypeId) (limit : ℕ) (bytes text : List ℕ)
    : Type 0 where
  pub are_bytes : AreBytes bytes
  pub whole : IsFilledWhole T t limit bytes
  pub json : Json
  pub says : SaysFilled tagged style T t whole.value json
  pub text_is : text ≡ print (json_tokens json)
  pub read : tokens text ≡ json_tokens json
