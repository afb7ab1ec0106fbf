-- The tokens of JSON that was written can be printed.
use Rattle.std.proofs.Common.{◌≡◌, ℕ, List, [], ◌∷◌, ◌++◌, subst}
use Rattle.json.specs.Token.{Token, begin_object, end_object, begin_array, end_array, key, string, number, boolean}
use Rattle.json.specs.Token.{null, bad}
use Rattle.json.specs.Json.{Json, Items, no_items, item, Members, no_members, member}
use Rattle.json.specs.Json as json
use Rattle.json.specs.Lex.{tokens}
use Rattle.json.specs.Print.{print, IsPrintable, ArePrintable, ArePrintableOrBad}
use Rattle.json.specs.Tree.{json_tokens, items_tokens, members_tokens}
use Rattle.json.proofs.Numbered.{ArePrintableOrBad-tokens}

abbrev IsToken : Token → Type 0
IsToken bad = ⊥
IsToken _ = Unit {0}

-- none of the tokens is bad
abbrev NoneBad : List Token → Type 0
NoneBad [] = Unit {0}
NoneBad (t ∷ ts) = IsToken t × NoneBad ts

none_bad : (ts us : List Token) → NoneBad ts → NoneBad us → NoneBad (ts ++ us)
none_bad [] us h k = k
none_bad (t ∷ ts) us h k = (h.0, none_bad ts us h.1 k)

mutual
  none_bad_json : (j : Json) → NoneBad (json_tokens j)
  none_bad_json json.null = (tt, tt)
  none_bad_json (json.boolean b) = (tt, tt)
  none_bad_json (json.number s) = (tt, tt)
  none_bad_json (json.string s) = (tt, tt)
  none_bad_json (json.array js) = (tt, none_bad_items js)
  none_bad_json (json.object ms) = (tt, none_bad_members ms)

  none_bad_items : (js : Items) → NoneBad (items_tokens js)
  none_bad_items no_items = (tt, tt)
  none_bad_items (item j js) = none_bad (json_tokens j) (items_tokens js) (none_bad_json j) (none_bad_items js)

  none_bad_members : (ms : Members) → NoneBad (members_tokens ms)
  none_bad_members no_members = (tt, tt)
  none_bad_members (member k j ms) =
      (tt, none_bad (json_tokens j) (members_tokens ms) (none_bad_json j) (none_bad_members ms))

one_printable : (t : Token) → IsToken t → (ts : List Token) → ArePrintableOrBad (t ∷ ts) → IsPrintable t
one_printable begin_object h ts p = tt
one_printable end_object h ts p = tt
one_printable begin_array h ts p = tt
one_printable end_array h ts p = tt
one_printable (key s) h ts p = tt
one_printable (string s) h ts p = tt
one_printable (number s) h ts p = p.0
one_printable (boolean b) h ts p = tt
one_printable null h ts p = tt
one_printable bad h ts p = absurd h

all_printable : (ts : List Token) → NoneBad ts → ArePrintableOrBad ts → ArePrintable ts
unfolding ArePrintable
all_printable [] h p = tt
all_printable (t ∷ ts) h p = (one_printable t h.0 ts p, all_printable ts h.1 p.1)

pub json_printable : (text : List ℕ) (j : Json) → tokens text ≡ json_tokens j → ArePrintable (json_tokens j)
json_printable text j e =
    all_printable (json_tokens j) (none_bad_json j) (subst ArePrintableOrBad e (ArePrintableOrBad-tokens text))
