-- JSON has no bad token.
use Rattle.std.proofs.Common.{◌≡◌, List, [], ◌∷◌, ◌++◌, subst}
use Rattle.std.specs.Prelude.{⊤}
use Rattle.json.specs.Token.{Token}
use Rattle.json.specs.Json.{Json, Items, Members}
use Rattle.json.specs.Json as json
use Rattle.json.specs.Tree.{json_tokens, items_tokens, members_tokens}

abbrev IsGood : Token → Type 0
IsGood Token.bad = ⊥
IsGood _ = ⊤

abbrev pub AreGood : List Token → Type 0
AreGood [] = ⊤
AreGood (t ∷ ts) = IsGood t × AreGood ts

both_good : (xs ys : List Token) → AreGood xs → AreGood ys → AreGood (xs ++ ys)
both_good [] ys p q = q
both_good (x ∷ xs) ys p q = (p.0, both_good xs ys p.1 q)

mutual
  pub json_good : (j : Json) → AreGood (json_tokens j)
  json_good json.null = (tt, tt)
  json_good (json.boolean b) = (tt, tt)
  json_good (json.number s) = (tt, tt)
  json_good (json.string s) = (tt, tt)
  json_good (json.array js) = (tt, items_good js)
  json_good (json.object ms) = (tt, members_good ms)

  items_good : (js : Items) → AreGood (items_tokens js)
  items_good json.no_items = (tt, tt)
  items_good (json.item j js) = both_good (json_tokens j) (items_tokens js) (json_good j) (items_good js)

  pub members_good : (ms : Members) → AreGood (members_tokens ms)
  members_good json.no_members = (tt, tt)
  members_good (json.member name j ms) =
      (tt, both_good (json_tokens j) (members_tokens ms) (json_good j) (members_good ms))

pub next_good : {t : Token} {ts us : List Token} → us ≡ t ∷ ts → AreGood us → AreGood ts
next_good {t = t} {ts = ts} e g = (subst AreGood e g).1

pub not_bad : {ts us : List Token} → us ≡ Token.bad ∷ ts → AreGood us → ⊥
not_bad e g = (subst AreGood e g).0
