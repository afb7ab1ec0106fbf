-- JSON in place of nulls. For private clauses.
use Rattle.std.specs.Prelude.{List, [], ◌∷◌, ◌++◌}
use Rattle.json.specs.Json.{Json}
use Rattle.json.specs.Json as json
use Rattle.json.specs.Token.{Token}
use Rattle.json.specs.Tree.{json_tokens}

-- what stands there for a token: for null the first of the JSON
abbrev pub token_held : Token → List Json → List Token
token_held Token.null (h ∷ hs) = json_tokens h
token_held t hs = t ∷ []

-- and which are left behind it
abbrev pub left_held : Token → List Json → List Json
left_held Token.null (h ∷ hs) = hs
left_held t hs = hs

-- the tokens with these JSON in place of the first of their nulls
abbrev pub with_held : List Json → List Token → List Token
with_held hs [] = []
with_held hs (t ∷ ts) = token_held t hs ++ with_held (left_held t hs) ts

-- what a nil says in the own text of its value: a text as it is, and null in the place of all else
abbrev pub own_json : Json → Json
own_json (json.string s) = json.string s
own_json j = json.null

-- what a null that it says there stands for, and all of them
abbrev pub held_json : Json → List Json
held_json (json.string s) = []
held_json j = j ∷ []

abbrev pub all_held : List Json → List Json
all_held [] = []
all_held (j ∷ js) = held_json j ++ all_held js
