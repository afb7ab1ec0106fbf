-- What a reader hands out up to the end of a value, and what it has left then.
use Rattle.std.proofs.Common.{◌≡◌, ◌∙◌, ℕ, zero, suc, ◌<◌, ◌≤◌, List, [], ◌∷◌, ◌++◌, ap, append_assoc, arith, refl}
use Rattle.std.proofs.Common.{subst, sym}
use Rattle.std.proofs.lemmas.List.{append-nil}
use Rattle.json.specs.Json.{Json, Items, Members}
use Rattle.json.specs.Json as json
use Rattle.json.specs.Print.{IsPrintable}
use Rattle.json.specs.Token.{Token}
use Rattle.json.specs.Tree.{json_tokens, items_tokens, members_tokens}
use Rattle.json_parts.specs.Copying.{after}

-- the tokens up to the one behind which as many brackets are closed
abbrev pub front : ℕ → List Token → List Token
front zero ts = []
front (suc n) [] = []
front (suc n) (Token.bad ∷ ts) = []
front (suc n) (t ∷ ts) = t ∷ front (after t (suc n)) ts

-- and those that follow it
abbrev pub behind : ℕ → List Token → List Token
behind zero ts = ts
behind (suc n) [] = []
behind (suc n) (Token.bad ∷ ts) = ts
behind (suc n) (t ∷ ts) = behind (after t (suc n)) ts

-- ---- a token further

none_below : 0 < 0 → ⊥
none_below l = omega arith

none_under : (n : ℕ) → suc n ≤ 0 → ⊥
none_under n l = omega arith

pub front_step : (n : ℕ) (t : Token) (ts : List Token) → 0 < n → IsPrintable t
    → front n (t ∷ ts) ≡ t ∷ front (after t n) ts
front_step (suc n) Token.begin_object ts l p = refl
front_step (suc n) Token.end_object ts l p = refl
front_step (suc n) Token.begin_array ts l p = refl
front_step (suc n) Token.end_array ts l p = refl
front_step (suc n) (Token.key s) ts l p = refl
front_step (suc n) (Token.string s) ts l p = refl
front_step (suc n) (Token.number s) ts l p = refl
front_step (suc n) (Token.boolean b) ts l p = refl
front_step (suc n) Token.null ts l p = refl
front_step (suc n) Token.bad ts l p = absurd p
front_step zero t ts l p = absurd (none_below l)

pub behind_step : (n : ℕ) (t : Token) (ts : List Token) → 0 < n → IsPrintable t
    → behind n (t ∷ ts) ≡ behind (after t n) ts
behind_step (suc n) Token.begin_object ts l p = refl
behind_step (suc n) Token.end_object ts l p = refl
behind_step (suc n) Token.begin_array ts l p = refl
behind_step (suc n) Token.end_array ts l p = refl
behind_step (suc n) (Token.key s) ts l p = refl
behind_step (suc n) (Token.string s) ts l p = refl
behind_step (suc n) (Token.number s) ts l p = refl
behind_step (suc n) (Token.boolean b) ts l p = refl
behind_step (suc n) Token.null ts l p = refl
behind_step (suc n) Token.bad ts l p = absurd p
behind_step zero t ts l p = absurd (none_below l)

-- ---- over a value

-- these tokens, which close so many brackets of more, come first
record Passes (before after : ℕ) (xs ts : List Token) : Type 0 where
  front : front before (xs ++ ts) ≡ xs ++ front after ts
  behind : behind before (xs ++ ts) ≡ behind after ts

passes_then : {a b c : ℕ} (xs ys ts : List Token) → Passes a b xs (ys ++ ts) → Passes b c ys ts
    → Passes a c (xs ++ ys) ts
passes_then {a = a} {c = c} xs ys ts p q = record {
  front = ap (front a) (append_assoc xs ys ts) ∙ p.front ∙ ap (λ (l : List Token). xs ++ l) q.front
      ∙ sym (append_assoc xs ys (front c ts));
  behind = ap (behind a) (append_assoc xs ys ts) ∙ p.behind ∙ q.behind;
}

passes_key : {a b : ℕ} (name : List ℕ) (xs ts : List Token) → Passes (suc a) b xs ts
    → Passes (suc a) b (Token.key name ∷ xs) ts
passes_key name xs ts p = record { front = ap (λ (l : List Token). Token.key name ∷ l) p.front; behind = p.behind }

mutual
  json_passes : (j : Json) (n : ℕ) (ts : List Token) → Passes (suc n) (suc n) (json_tokens j) ts
  json_passes json.null n ts = record { front = refl; behind = refl }
  json_passes (json.boolean b) n ts = record { front = refl; behind = refl }
  json_passes (json.number s) n ts = record { front = refl; behind = refl }
  json_passes (json.string s) n ts = record { front = refl; behind = refl }
  json_passes (json.array js) n ts = record {
    front = ap (λ (l : List Token). Token.begin_array ∷ l) (items_pass js (suc n) ts).front;
    behind = (items_pass js (suc n) ts).behind;
  }
  json_passes (json.object ms) n ts = record {
    front = ap (λ (l : List Token). Token.begin_object ∷ l) (members_pass ms (suc n) ts).front;
    behind = (members_pass ms (suc n) ts).behind;
  }

  items_pass : (js : Items) (n : ℕ) (ts : List Token) → Passes (suc n) n (items_tokens js) ts
  items_pass json.no_items n ts = record { front = refl; behind = refl }
  items_pass (json.item j js) n ts =
      passes_then (json_tokens j) (items_tokens js) ts (json_passes j n (items_tokens js ++ ts)) (items_pass js n ts)

  members_pass : (ms : Members) (n : ℕ) (ts : List Token) → Passes (suc n) n (members_tokens ms) ts
  members_pass json.no_members n ts = record { front = refl; behind = refl }
  members_pass (json.member name j ms) n ts =
      passes_key name (json_tokens j ++ members_tokens ms) ts
      (passes_then (json_tokens j) (members_tokens ms) ts (json_passes j n (members_tokens ms ++ ts))
      (members_pass ms n ts))

-- ---- a value from its first token on

-- the value is the token and the front of what follows it
pub record IsWhole (t : Token) (ts rest : List Token) (j : Json) : Type 0 where
  pub front : t ∷ front (after t 0) ts ≡ json_tokens j
  pub behind : behind (after t 0) ts ≡ rest

abbrev IsWholeOf : List Token → List Token → Json → Type 0
IsWholeOf [] rest j = ⊥
IsWholeOf (t ∷ ts) rest j = IsWhole t ts rest j

whole : (j : Json) (rest : List Token) → IsWholeOf (json_tokens j ++ rest) rest j
whole json.null rest = record { front = refl; behind = refl }
whole (json.boolean b) rest = record { front = refl; behind = refl }
whole (json.number s) rest = record { front = refl; behind = refl }
whole (json.string s) rest = record { front = refl; behind = refl }
whole (json.array js) rest = record {
  front = ap (λ (l : List Token). Token.begin_array ∷ l)
      ((items_pass js 0 rest).front ∙ append-nil (items_tokens js));
  behind = (items_pass js 0 rest).behind;
}
whole (json.object ms) rest = record {
  front = ap (λ (l : List Token). Token.begin_object ∷ l)
      ((members_pass ms 0 rest).front ∙ append-nil (members_tokens ms));
  behind = (members_pass ms 0 rest).behind;
}

pub whole_of : (j : Json) (rest : List Token) (t : Token) (ts : List Token) → t ∷ ts ≡ json_tokens j ++ rest
    → IsWhole t ts rest j
whole_of j rest t ts e = subst (λ xs. IsWholeOf xs rest j) (sym e) (whole j rest)

-- ---- what was copied

pub copied : {t : Token} {ts new written : List Token} (n : ℕ) (now out : List Token)
    → written ++ front n now ≡ out ++ (t ∷ front (after t 0) ts) → behind n now ≡ behind (after t 0) ts
    → front n now ≡ [] → behind n now ≡ new → (j : Json) (rest : List Token) → t ∷ ts ≡ json_tokens j ++ rest
    → (written ≡ out ++ json_tokens j) × (new ≡ rest)
copied {t = t} {ts = ts} {written = written} n now out w b none left j rest e =
    let is = whole_of j rest t ts e in (
      sym (append-nil written) ∙ ap (λ (l : List Token). written ++ l) (sym none) ∙ w
          ∙ ap (λ (l : List Token). out ++ l) is.front,
      sym left ∙ b ∙ is.behind,
    )

pub front_closed : (n : ℕ) (ts : List Token) → n ≤ 0 → front n ts ≡ []
front_closed zero ts l = refl
front_closed (suc n) ts l = absurd (none_under n l)

pub behind_closed : (n : ℕ) (ts : List Token) → n ≤ 0 → behind n ts ≡ ts
behind_closed zero ts l = refl
behind_closed (suc n) ts l = absurd (none_under n l)

pub front_ended : (n : ℕ) (ts : List Token) → ts ≡ [] → front n ts ≡ []
front_ended zero ts e = refl
front_ended (suc n) ts e = ap (front (suc n)) e

pub behind_ended : (n : ℕ) (ts us : List Token) → ts ≡ [] → us ≡ [] → behind n ts ≡ us
behind_ended zero ts us e f = e ∙ sym f
behind_ended (suc n) ts us e f = ap (behind (suc n)) e ∙ sym f

pub front_bad : (n : ℕ) (ts us : List Token) → ts ≡ Token.bad ∷ us → front n ts ≡ []
front_bad zero ts us e = refl
front_bad (suc n) ts us e = ap (front (suc n)) e

pub behind_bad : (n : ℕ) (ts us : List Token) → 0 < n → ts ≡ Token.bad ∷ us → behind n ts ≡ us
behind_bad zero ts us l e = absurd (none_below l)
behind_bad (suc n) ts us l e = ap (behind (suc n)) e
