-- Tokens of JSON read one behind another: how many brackets are open, and where the parts end.
use Rattle.std.specs.Prelude.{◌≡◌, ℕ, zero, suc, List, [], ◌∷◌, ⊤}
use Rattle.json.specs.Token.{Token}

-- how many brackets are open behind the token
abbrev pub after : Token → ℕ → ℕ
after Token.begin_object n = suc n
after Token.begin_array n = suc n
after Token.end_object zero = zero
after Token.end_object (suc n) = n
after Token.end_array zero = zero
after Token.end_array (suc n) = n
after _ n = n

-- no part begins with it
abbrev pub IsEnd : Token → Type 0
IsEnd Token.end_object = ⊤
IsEnd Token.end_array = ⊤
IsEnd Token.bad = ⊤
IsEnd _ = ⊥

-- no part is next: the text has ended, or the token that ends the parts was read
pub data EndsParts : (old new : List Token) → Type 0 where
  text_ended : {old new : List Token} → old ≡ [] → new ≡ [] → EndsParts old new
  parts_ended : {old new : List Token} (t : Token) → IsEnd t → old ≡ t ∷ new → EndsParts old new
