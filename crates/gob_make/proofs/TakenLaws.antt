-- What begins with the token that was taken last.
use Rattle.std.proofs.Common.{◌≡◌, ◌∙◌, ◌<◌, ℕ, List, [], ◌∷◌, length, length-append, Option, Some, None}
use Rattle.std.proofs.Common.{arith, sym, ap, subst, Bool, MatchOption}
use Rattle.json.specs.Json.{Json}
use Rattle.json.specs.Json as json
use Rattle.json.specs.Reads.{token_of}
use Rattle.json.specs.Token.{Token}
use Rattle.json.specs.Tree.{json_tokens}
use Rattle.json.specs.declared.token.Token as taken
use Rattle.gob_types.specs.declared.id.TypeId.{TypeId}
use Rattle.gob_types.specs.declared.kind.Field.{Field}
use Rattle.gob_types.specs.Table.{Table}
use Rattle.gob_value.specs.Tree.{Tree, Fields}
use Rattle.gob_make.specs.Plain.{ReadsPlain}
use Rattle.gob_make.specs.Tells.{AddsMember, Begins, from_token}

-- the token with those behind it
pub all_taken : (token : Option taken.Token) (ts old : List Token)
    → MatchOption token ((old ≡ []) × (ts ≡ [])) (λ t. old ≡ token_of t ∷ ts) → old ≡ from_token token ts
all_taken None ts old e = e.0
all_taken (Some t) ts old e = e

pub from_this : {P : Json → Type 0} {token : Option taken.Token} (t : taken.Token) {ts new : List Token}
    → token ≡ Some t → Begins P (token_of t ∷ ts) new → Begins P (from_token token ts) new
from_this {P = P} t {ts = ts} {new = new} e b = subst (λ k. Begins P (from_token k ts) new) (sym e) b

pub moved : {P : Json → Type 0} {old mid new : List Token} → old ≡ mid → Begins P mid new → Begins P old new
moved e b = record { json = b.json; holds = b.holds; stands = e ∙ b.stands }

pub retaken : {P : Json → Type 0} (token : Option taken.Token) (ts old new : List Token)
    → MatchOption token ((old ≡ []) × (ts ≡ [])) (λ t. old ≡ token_of t ∷ ts) → Begins P (from_token token ts) new
    → Begins P old new
retaken token ts old new e b = moved (all_taken token ts old e) b

-- what is read where members may be left out as well as there
pub leniently : {m n : Bool} {T : Table} {t : TypeId} {v : Tree} {old new : List Token} → m ≡ n
    → Begins (λ j. ReadsPlain m T t j v) old new → Begins (λ j. ReadsPlain n T t j v) old new
leniently {T = T} {t = t} {v = v} {old = old} {new = new} e b =
    subst (λ (l : Bool). Begins (λ j. ReadsPlain l T t j v) old new) e b

pub adds_leniently : {m n : Bool} {T : Table} {types : List Field} {number : ℕ} {fs more : Fields}
    {old new : List Token} → m ≡ n → AddsMember m T types number fs more old new
    → AddsMember n T types number fs more old new
adds_leniently {T = T} {types = types} {number = number} {fs = fs} {more = more} {old = old} {new = new} e a =
    subst (λ (l : Bool). AddsMember l T types number fs more old new) e a

some_tokens : (j : Json) → 0 < length (json_tokens j)
some_tokens json.null = omega arith
some_tokens (json.boolean b) = omega arith
some_tokens (json.number s) = omega arith
some_tokens (json.string s) = omega arith
some_tokens (json.array js) = omega arith
some_tokens (json.object ms) = omega arith

pub begins_shorter : {P : Json → Type 0} (old new : List Token) → Begins P old new → length new < length old
begins_shorter old new b =
    let some = some_tokens b.json in
    let e = ap length b.stands ∙ length-append (json_tokens b.json) new in
    omega (arith, some, e)
