-- Calls that write tokens, one behind another, and what is left to be written of a list.
use Rattle.std.proofs.Common.{◌≡◌, ℕ, ◌+◌, ◌<◌, ◌≤◌, List, [], ◌∷◌, ◌++◌, length, get_or, drop, ◌∙◌, ap, sym, subst}
use Rattle.std.proofs.Common.{append_assoc, Result, Ok, Err, arith}
use Rattle.std.specs.Prelude.{IsErr, OnOk}
use Rattle.std.proofs.lemmas.List.{at_drop_more, drop_all}
use Rattle.std.proofs.lemmas.Result.{on_ok_weaker, IfOk-from_err}
use Rattle.json.specs.Token.{Token}
use Rattle.json.specs.Written.{Written, Writes}
use Rattle.serde_json.specs.Data.{Data}
use Rattle.gob_json_writer.specs.Nils.{WritesOn}
use Rattle.gob_json_writer.specs.WritesJson.{WritesTokens, WritesJson, WritesJsonOf}

-- ---- one call behind another

pub one_written : {E : Type 0} {r : Result (Unit {0}) E} {old new : Written} {t : Token} → Writes r old new t
    → WritesTokens r old new (t ∷ [])
one_written w = record { tokens = w.ok; before = w.room.0 }

pub both_written : {E F : Type 0} {r : Result (Unit {0}) F} {u : Unit {0}} {old mid new : Written} {xs ys : List Token}
    → WritesTokens {E = E} (Ok u) old mid xs → WritesTokens r mid new ys → WritesTokens r old new (xs ++ ys)
both_written {r = r} {old = old} {xs = xs} {ys = ys} p q = record {
  tokens = on_ok_weaker r (λ e. e ∙ ap (λ (l : List Token). l ++ ys) p.tokens ∙ append_assoc old.tokens xs ys) q.tokens;
  before = q.before ∙ p.before;
}

-- a call that failed says of the tokens nothing
pub none_written : {E : Type 0} {r : Result (Unit {0}) E} {old new : Written} {ts : List Token} → IsErr r
    → new.before ≡ old.before → WritesTokens r old new ts
none_written {r = r} {old = old} {new = new} {ts = ts} e b = record {
  tokens = IfOk-from_err r (λ _. new.tokens ≡ old.tokens ++ ts) e;
  before = b;
}

pub none_written_of : {E V : Type 0} {r : Result (Unit {0}) E} {old new : Written} {Is : V → Type 0} {json : V → Data}
    → IsErr r → new.before ≡ old.before → WritesJsonOf r old new Is json
none_written_of e b = record { before = b; each = λ v h. none_written e b }

-- a call that failed says nothing either of what nils show
pub none_on : {E V : Type 0} {r : Result (Unit {0}) E} {old new : Written} {Is : V → Type 0}
    {from to : (ℕ → Data) → ℕ → Type 0} {count : V → ℕ} {json : (ℕ → Data) → ℕ → V → Data} → IsErr r
    → new.before ≡ old.before → WritesOn r old new Is from to count json
none_on {r = r} {to = to} {count = count} e b = record {
  before = b;
  each = λ v N n h s. (none_written e b, IfOk-from_err r (λ _. to N (n + count v)) e);
}

-- what holds in any case holds where a call is well
pub on_ok_of : {E A P : Type 0} (r : Result A E) → P → OnOk r P
on_ok_of (Ok x) p = p
on_ok_of (Err e) p = tt

-- a part counts for as many numbers
pub on_counted : {E A : Type 0} (r : Result A E) (to : ℕ → Type 0) {i j : ℕ} → i ≡ j → OnOk r (to i) → OnOk r (to j)
on_counted r to e p = on_ok_weaker r (subst to e) p

-- the nils are those under another name
pub with_nils : {E V X : Type 0} {r : Result (Unit {0}) E} {old new : Written} {Is : V → Type 0}
    {from : (ℕ → Data) → ℕ → Type 0} (shows : X → (ℕ → Data) → ℕ → Type 0) {nils other : X} {count : V → ℕ}
    {json : (ℕ → Data) → ℕ → V → Data} → other ≡ nils → WritesOn r old new Is from (shows nils) count json
    → WritesOn r old new Is from (shows other) count json
with_nils {r = r} {old = old} {new = new} {Is = Is} {from = from} shows {count = count} {json = json} e w =
    subst (λ x. WritesOn r old new Is from (shows x) count json) (sym e) w

pub no_more_levels : {X : Type 0} (levels : X → ℕ) {before mid after other : X} → other ≡ after
    → levels after ≤ levels mid → levels mid ≤ levels before → levels other ≤ levels before
no_more_levels levels e a b = let f = ap levels e in omega arith

-- what writes some JSON writes any that equals it
pub same_written : {E : Type 0} {r : Result (Unit {0}) E} {old new : Written} {d e : Data} → d ≡ e
    → WritesJson r old new d → WritesJson r old new e
same_written {r = r} {old = old} {new = new} e w = subst (WritesJson r old new) e w

-- ---- what is left to be written

-- behind what is written now, the rest makes all
pub record IsLeft (old now : Written) (rest all : List Token) : Type 0 where
  pub tokens : now.tokens ++ rest ≡ old.tokens ++ all
  pub before : now.before ≡ old.before

pub left_begun : {E : Type 0} {u : Unit {0}} {old now : Written} {xs : List Token} (rest : List Token)
    → WritesTokens {E = E} (Ok u) old now xs → IsLeft old now rest (xs ++ rest)
left_begun {old = old} {xs = xs} rest w = record {
  tokens = ap (λ (l : List Token). l ++ rest) w.tokens ∙ append_assoc old.tokens xs rest;
  before = w.before;
}

pub left_on : {E : Type 0} {u : Unit {0}} {old now new : Written} {xs : List Token} (rest : List Token)
    {all : List Token}
    → IsLeft old now (xs ++ rest) all → WritesTokens {E = E} (Ok u) now new xs → IsLeft old new rest all
left_on {now = now} {xs = xs} rest l w = record {
  tokens = ap (λ (l : List Token). l ++ rest) w.tokens ∙ append_assoc now.tokens xs rest ∙ l.tokens;
  before = w.before ∙ l.before;
}

pub left_end : {E : Type 0} {r : Result (Unit {0}) E} {old now new : Written} {xs all : List Token}
    → IsLeft old now xs all → WritesTokens r now new xs → WritesTokens r old new all
left_end {r = r} l w = record {
  tokens = on_ok_weaker r (λ e. e ∙ l.tokens) w.tokens;
  before = w.before ∙ l.before;
}

-- one more of the list was written
pub left_more : {E X : Type 0} {u : Unit {0}} (tokens : List X → List Token) {xs shown : List X} {i : ℕ} {x : X}
    {one : List Token} {old now new : Written} {all : List Token}
    → shown ≡ xs → x ≡ get_or shown i x → i < length shown
    → tokens (x ∷ drop (i + 1) xs) ≡ one ++ tokens (drop (i + 1) xs) → IsLeft old now (tokens (drop i xs)) all
    → WritesTokens {E = E} (Ok u) now new one → IsLeft old new (tokens (drop (i + 1) xs)) all
left_more tokens {xs = xs} {i = i} {x = x} {old = old} {now = now} {all = all} same at within first l w =
    let next = ap (λ l. get_or l i x) (sym same) ∙ sym at in
    let left = at_drop_more tokens xs i x (subst (λ l. i < length l) same within)
    ∙ ap (λ y. tokens (y ∷ drop (i + 1) xs)) next ∙ first in
    left_on (tokens (drop (i + 1) xs)) (subst (λ ts. IsLeft old now ts all) left l) w

-- the whole list was written
pub left_none : {E X : Type 0} {r : Result (Unit {0}) E} (tokens : List X → List Token) {xs shown : List X} {i : ℕ}
    {old now new : Written} {all : List Token}
    → shown ≡ xs → length shown ≤ i → IsLeft old now (tokens (drop i xs)) all → WritesTokens r now new (tokens [])
    → WritesTokens r old new all
left_none tokens {xs = xs} {i = i} {old = old} {now = now} {all = all} same past l w =
    let none = ap tokens (drop_all i xs (subst (λ l. length l ≤ i) same past)) in
    left_end (subst (λ ts. IsLeft old now ts all) none l) w
