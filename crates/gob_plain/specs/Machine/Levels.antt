-- The JSON of a value that holds others, with a text for each of them. For private clauses.
use Rattle.std.specs.Prelude.{◌≡◌, ℕ, List, [], ◌∷◌, Option, Some, None, string_bytes}
use Rattle.std.specs.Borrow.{Bor}
use Rattle.json.specs.Json.{Json}
use Rattle.json.specs.Json as json
use Rattle.json.specs.Lex.{tokens}
use Rattle.json.specs.Tree.{json_tokens}
use Rattle.gob_plain.specs.Plain.{name_text}
use Rattle.gob_plain.specs.Machine.Nulls.{own_json, with_held}
use Rattle.gob_plain.specs.declared.go.level.OwnText.{OwnText, out-OwnText}
use Rattle.gob_plain.specs.declared.go.level.HeldText.{HeldText, out-HeldText}

-- {"NAME":value}, where a name is shown
abbrev pub named_json : Option (Bor (List ℕ)) → Json → Json
named_json None i = i
named_json (Some name) i = json.object (json.member (name_text name.now) i json.no_members)

-- what is kept of them
abbrev pub text_of : OwnText → List ℕ
text_of level = string_bytes (out-OwnText level).text

abbrev pub held_of : OwnText → List (Option HeldText)
held_of level = (out-OwnText level).held.items

abbrev pub name_of : HeldText → Option (Bor (List ℕ))
name_of held = (out-HeldText held).name

abbrev pub level_of : HeldText → OwnText
level_of held = (out-HeldText held).level

mutual
  -- a value says this, with what its interfaces hold: its own text is that of JSON in which the nulls stand for that
  pub data LevelSays : OwnText → Json → Type 0 where
    level_says : {level : OwnText} {j : Json} (own : Json) (said : List Json) → tokens (text_of level) ≡ json_tokens own
        → HeldSay (held_of level) said → with_held said (json_tokens own) ≡ json_tokens j → own_json j ≡ own_json own
        → LevelSays level j

  -- what its nulls stand for says this, one by one
  pub data HeldSay : List (Option HeldText) → List Json → Type 0 where
    none_held : HeldSay [] []
    nothing_held : {all : List (Option HeldText)} {said : List Json} → HeldSay all said
        → HeldSay (None ∷ all) (json.null ∷ said)
    then_held : {held : HeldText} {i : Json} {all : List (Option HeldText)} {said : List Json}
        → LevelSays (level_of held) i → HeldSay all said
        → HeldSay (Some held ∷ all) (named_json (name_of held) i ∷ said)
