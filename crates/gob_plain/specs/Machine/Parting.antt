-- Which of the values that a value holds stand in its own text. For private clauses.
use Rattle.std.specs.Prelude.{◌≡◌, Bool, true, false, List, [], ◌∷◌, ◌++◌, Option, Some, None, string_bytes}
use Rattle.json.specs.Json.{Json}
use Rattle.json.specs.Json as json
use Rattle.json.specs.Lex.{tokens}
use Rattle.json.specs.Tree.{json_tokens}
use Rattle.gob_plain.specs.declared.fillers.Filler.{Filler}
use Rattle.gob_plain.specs.declared.go.level.HeldText.{HeldText}
use Rattle.gob_plain.specs.Machine.Levels.{level_of, name_of, text_of}

abbrev pub is_text : Json → Bool
is_text (json.string s) = true
is_text j = false

-- the value is a text that no name is shown before
pub record IsText (held : HeldText) : Type 0 where
  pub bare : name_of held ≡ None
  pub text : (own : Json) → tokens (text_of (level_of held)) ≡ json_tokens own → is_text own ≡ true

-- it isn't
abbrev pub IsNoText : HeldText → Type 0
IsNoText held = name_of held ≡ None → (own : Json) → tokens (text_of (level_of held)) ≡ json_tokens own
    → is_text own ≡ false

-- what fills a nil: the text that it says, and what the null that it says else stands for
pub data IsParted : Option HeldText → Option Filler → List (Option HeldText) → Type 0 where
  nothing_parted : IsParted None None (None ∷ [])
  text_parted : {held : HeldText} {f : Filler} → IsText held → f.name ≡ None
      → string_bytes f.text ≡ text_of (level_of held) → IsParted (Some held) (Some f) []
  value_parted : {held : HeldText} → IsNoText held → IsParted (Some held) None (Some held ∷ [])

-- one nil behind another
pub data AreParted : List (Option HeldText) → List (Option Filler) → List (Option HeldText) → Type 0 where
  none_parted : AreParted [] [] []
  then_parted : {next : Option HeldText} {text : Option Filler} {own held : List (Option HeldText)}
      {all : List (Option HeldText)}
      {texts : List (Option Filler)} → IsParted next text own → AreParted all texts held
      → AreParted (next ∷ all) (text ∷ texts) (own ++ held)
