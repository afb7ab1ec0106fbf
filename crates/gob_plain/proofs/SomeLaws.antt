-- Calls that write tokens of which something holds, one behind another, and what is left to be written.
use Rattle.std.proofs.Common.{◌≡◌, ℕ, List, [], ◌∷◌, ◌++◌, ◌∙◌, ap, append_assoc, Result, Ok}
use Rattle.std.specs.Prelude.{IsErr}
use Rattle.std.proofs.lemmas.Result.{on_ok_weaker, IfOk-from_err}
use Rattle.json.specs.Token.{Token}
use Rattle.json.specs.Json.{Json, Items, Members}
use Rattle.json.specs.Tree.{json_tokens, items_tokens, members_tokens}
use Rattle.json.specs.Written.{Written, Writes}
use Rattle.gob_json_writer.specs.WritesJson.{WritesTokens}
use Rattle.gob_plain.specs.WritesPlain.{WritesSome, WritesPlainOf}
pub use Rattle.gob_plain.specs.WritesPlain.{some_then}

-- ---- one call behind another

pub some_of : {E : Type 0} {r : Result (Unit {0}) E} {old new : Written} {xs : List Token} {P : List Token → Type 0}
    → WritesTokens r old new xs → P xs → WritesSome r old new P
some_of {r = r} {xs = xs} w p = record { tokens = on_ok_weaker r (λ e. (xs, p, e)) w.tokens; before = w.before }

pub some_weaker : {E : Type 0} {r : Result (Unit {0}) E} {old new : Written} {P Q : List Token → Type 0}
    → ((ts : List Token) → P ts → Q ts) → WritesSome r old new P → WritesSome r old new Q
some_weaker {r = r} f w = record {
  tokens = on_ok_weaker r (λ e. (e.0, f e.0 e.1, e.2)) w.tokens;
  before = w.before;
}

pub some_behind : {E F : Type 0} {u : Unit {0}} {r : Result (Unit {0}) F} {old mid new : Written} {xs : List Token}
    {Q R : List Token → Type 0}
    → WritesTokens {E = E} (Ok u) old mid xs → WritesSome r mid new Q
    → ((ys : List Token) → Q ys → R (xs ++ ys)) → WritesSome r old new R
some_behind {r = r} {old = old} {xs = xs} v w f = record {
  tokens = on_ok_weaker r
      (λ e. (xs ++ e.0, f e.0 e.1, e.2 ∙ ap (λ (l : List Token). l ++ e.0) v.tokens ∙ append_assoc old.tokens xs e.0))
      w.tokens;
  before = w.before ∙ v.before;
}

-- a call that failed says of the tokens nothing
pub some_failed : {E : Type 0} {r : Result (Unit {0}) E} {old new : Written} {P : List Token → Type 0} → IsErr r
    → new.before ≡ old.before → WritesSome r old new P
some_failed {r = r} {old = old} {new = new} {P = P} e b = record {
  tokens = IfOk-from_err r (λ _. (ts : List Token) × P ts × (new.tokens ≡ old.tokens ++ ts)) e;
  before = b;
}

pub plain_failed : {E V : Type 0} {r : Result (Unit {0}) E} {old new : Written} {Is : V → Type 0} {Says : V → Json
    → Type 0}
    → IsErr r → new.before ≡ old.before → WritesPlainOf r old new Is Says
plain_failed e b = record { before = b; each = λ v h. some_failed e b }

-- ---- what is left to be written

-- behind what is written now, tokens of the rest make all
pub record IsLeft (old now : Written) (Rest All : List Token → Type 0) : Type 0 where
  pub each : (xs : List Token) → Rest xs → (ys : List Token) × All ys × (now.tokens ++ xs ≡ old.tokens ++ ys)
  pub before : now.before ≡ old.before

pub left_begun : {E : Type 0} {u : Unit {0}} {old now : Written} {xs : List Token} {Rest All : List Token → Type 0}
    → WritesTokens {E = E} (Ok u) old now xs → ((ys : List Token) → Rest ys → All (xs ++ ys)) → IsLeft old now Rest All
left_begun {old = old} {xs = xs} w f = record {
  each = λ ys h. (xs ++ ys, f ys h, ap (λ (l : List Token). l ++ ys) w.tokens ∙ append_assoc old.tokens xs ys);
  before = w.before;
}

pub left_on : {E : Type 0} {u : Unit {0}} {old now new : Written} {P Rest Next All : List Token → Type 0}
    → IsLeft old now Rest All → WritesSome {E = E} (Ok u) now new P
    → ((xs ys : List Token) → P xs → Next ys → Rest (xs ++ ys)) → IsLeft old new Next All
left_on {now = now} l w f =
    let xs = w.tokens.0 in record {
      each = λ ys h.
          let g = l.each (xs ++ ys) (f xs ys w.tokens.1 h) in
          (g.0, g.1, ap (λ (l : List Token). l ++ ys) w.tokens.2 ∙ append_assoc now.tokens xs ys ∙ g.2);
      before = w.before ∙ l.before;
    }

pub left_end : {E : Type 0} {r : Result (Unit {0}) E} {old now new : Written} {xs : List Token} {Rest All : List Token
    → Type 0}
    → IsLeft old now Rest All → WritesTokens r now new xs → Rest xs → WritesSome r old new All
left_end {r = r} {xs = xs} l w h =
    let g = l.each xs h in record {
      tokens = on_ok_weaker r (λ e. (g.0, g.1, e ∙ g.2)) w.tokens;
      before = w.before ∙ l.before;
    }

-- ---- tokens of lists

-- those of items, or of members, of which this holds, with the closing bracket
abbrev pub ItemsTokens : (Items → Type 0) → List Token → Type 0
ItemsTokens P ts = (js : Items) × P js × (ts ≡ items_tokens js)

abbrev pub MembersTokens : (Members → Type 0) → List Token → Type 0
MembersTokens P ts = (ms : Members) × P ms × (ts ≡ members_tokens ms)

-- those of a member
abbrev pub MemberTokens : List ℕ → (Json → Type 0) → List Token → Type 0
MemberTokens name P ts = (j : Json) × P j × (ts ≡ Token.key name ∷ json_tokens j)

pub both_same : {xs xs' ys ys' : List Token} → xs ≡ xs' → ys ≡ ys' → xs ++ ys ≡ xs' ++ ys'
both_same {xs' = xs'} {ys = ys} e f = ap (λ (l : List Token). l ++ ys) e ∙ ap (λ (l : List Token). xs' ++ l) f

pub one_written : {E : Type 0} {r : Result (Unit {0}) E} {old new : Written} {t : Token} → Writes r old new t
    → WritesTokens r old new (t ∷ [])
one_written w = record { tokens = w.ok; before = w.room.0 }
