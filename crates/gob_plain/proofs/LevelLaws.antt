-- What is held says, one by one.
use Rattle.std.proofs.Common.{◌≡◌, ◌∙◌, ℕ, zero, suc, ◌+◌, ◌<◌, ◌≤◌, List, [], ◌∷◌, ◌++◌, Option, Some, None, ap, arith}
use Rattle.std.proofs.Common.{◌≢◌, append_assoc, drop, get_or, length, refl, sym, subst}
use Rattle.json.specs.Json.{Json}
use Rattle.json.specs.Json as json
use Rattle.json.specs.Lex.{tokens}
use Rattle.json.specs.Reads.{token_of}
use Rattle.json.specs.Token.{Token}
use Rattle.json.specs.Tree.{json_tokens}
use Rattle.json.specs.declared.token.Token as token
use Rattle.json.specs.declared.token.Token.TheVariants as kinds
use Rattle.gob_plain.specs.declared.go.level.OwnText.{OwnText}
use Rattle.gob_plain.specs.declared.go.level.HeldText.{HeldText}
use Rattle.gob_plain.specs.Machine.Levels.{HeldSay, LevelSays, level_says, none_held, nothing_held, then_held}
use Rattle.gob_plain.specs.Machine.Levels.{held_of, level_of, name_of, named_json, text_of}
use Rattle.gob_plain.specs.Machine.Nulls.{left_held, token_held, with_held}
use Rattle.gob_plain.proofs.GoodTokens.{AreGood, json_good}
use Rattle.gob_plain.proofs.NullLaws.{none_stay}

-- the next one
pub record NextSays (x : Option HeldText) (said rest : List Json) : Type 0 where
  pub none : x ≡ None → said ≡ json.null ∷ rest
  pub some : (held : HeldText) → x ≡ Some held
      → (i : Json) × LevelSays (level_of held) i × (said ≡ named_json (name_of held) i ∷ rest)

some_one : {X : Type 0} {x y : X} → Some x ≡ Some y → x ≡ y
some_one e = cc

at_next : {all : List (Option HeldText)} {said : List Json} (n : ℕ) (x : Option HeldText) → HeldSay all said
    → n < length all → x ≡ get_or all n x → NextSays x (drop n said) (drop (suc n) said)
at_next n x none_held l e = absurd (omega (arith, l))
at_next zero x (nothing_held {said = said} h) l e = record {
  none = λ _. refl;
  some = λ held f. absurd (by (sym e ∙ f));
}
  where
    by : {X : Type 0} {y : X} → None ≡ Some y → ⊥
    by e = cc
at_next zero x (then_held {held = held} {i = i} {said = said} s h) l e = record {
  none = λ f. absurd (by (sym e ∙ f));
  some = λ y f.
      let same : held ≡ y = some_one (sym e ∙ f) in
      subst
      (λ (k : HeldText). (k_says : Json) × LevelSays (level_of k) k_says
      × (named_json (name_of held) i ∷ said ≡ named_json (name_of k) k_says ∷ said))
      same (i, s, refl);
}
  where
    by : {X : Type 0} {y : X} → Some y ≡ None → ⊥
    by e = cc
at_next (suc n) x (nothing_held {all = all} {said = said} h) l e =
    at_next {all = all} {said = said} n x h (omega (arith, l)) e
at_next (suc n) x (then_held {all = all} {said = said} s h) l e =
    at_next {all = all} {said = said} n x h (omega (arith, l)) e

pub next_says : {all : List (Option HeldText)} {said : List Json} (n : ℕ) (x : Option HeldText) → HeldSay all said
    → n < length all → x ≡ get_or all n x → NextSays x (drop n said) (drop (n + 1) said)
next_says {said = said} n x h l e =
    let same : suc n ≡ n + 1 = omega arith in
    subst (λ m. NextSays x (drop n said) (drop m said)) same (at_next n x h l e)

pub none_next : {all : List (Option HeldText)} {said : List Json} (n : ℕ) → HeldSay all said → length all ≤ n
    → drop n said ≡ []
none_next zero none_held l = refl
none_next (suc n) none_held l = refl
none_next zero (nothing_held h) l = absurd (omega (arith, l))
none_next zero (then_held s h) l = absurd (omega (arith, l))
none_next (suc n) (nothing_held {all = all} {said = said} h) l =
    none_next {all = all} {said = said} n h (omega (arith, l))
none_next (suc n) (then_held {all = all} {said = said} s h) l =
    none_next {all = all} {said = said} n h (omega (arith, l))

-- ---- token by token

pub one_on : {D' : List Json} {R R' B X : List Token} (t : Token) (D : List Json) (A : List Token)
    → A ++ with_held D R ≡ X → R ≡ t ∷ R'
    → B ≡ A ++ token_held t D → D' ≡ left_held t D → B ++ with_held D' R' ≡ X
one_on {D' = D'} {R' = R'} {B = B} t D A e r w d =
    ap (λ (l : List Json). B ++ with_held l R') d
    ∙ ap (λ (l : List Token). l ++ with_held (left_held t D) R') w
    ∙ append_assoc A (token_held t D) (with_held (left_held t D) R')
    ∙ ap (λ (l : List Token). A ++ with_held D l) (sym r) ∙ e

pub same_token : (t : token.Token) (D : List Json) → t ≢ kinds.Null → token_held (token_of t) D ≡ token_of t ∷ []
same_token kinds.BeginObject D n = refl
same_token kinds.EndObject D n = refl
same_token kinds.BeginArray D n = refl
same_token kinds.EndArray D n = refl
same_token (kinds.Key s) D n = refl
same_token (kinds.String s) D n = refl
same_token (kinds.Number s) D n = refl
same_token (kinds.Bool b) D n = refl
same_token kinds.Null D n = absurd (n refl)
same_token kinds.Bad D n = refl

pub same_left : (t : token.Token) (D : List Json) → t ≢ kinds.Null → D ≡ left_held (token_of t) D
same_left kinds.BeginObject D n = refl
same_left kinds.EndObject D n = refl
same_left kinds.BeginArray D n = refl
same_left kinds.EndArray D n = refl
same_left (kinds.Key s) D n = refl
same_left (kinds.String s) D n = refl
same_left (kinds.Number s) D n = refl
same_left (kinds.Bool b) D n = refl
same_left kinds.Null D n = absurd (n refl)
same_left kinds.Bad D n = refl

-- ---- the text of a level

pub level_good : {level : OwnText} {j : Json} → LevelSays level j → AreGood (tokens (text_of level))
level_good (level_says own said e h w o) = subst AreGood (sym e) (json_good own)

pub level_told : {level : OwnText} {j : Json} {new : List Token} (old : List Token) → LevelSays level j
    → ((said : List Json) → HeldSay (held_of level) said → new ≡ old ++ with_held said (tokens (text_of level)))
    → new ≡ old ++ json_tokens j
level_told old (level_says own said e h w o) told =
    told said h ∙ ap (λ (l : List Token). old ++ with_held said l) e ∙ ap (λ (l : List Token). old ++ l) w

-- ---- a level in which nothing is held

pub bare_told : {level : OwnText} {j : Json} → held_of level ≡ [] → LevelSays level j
    → tokens (text_of level) ≡ json_tokens j
bare_told none (level_says own said e h w o) =
    let empty : said ≡ [] = none_next 0 (subst (λ l. HeldSay l said) none h) (omega arith) in
    e ∙ sym (none_stay (json_tokens own)) ∙ ap (λ (l : List Json). with_held l (json_tokens own)) (sym empty) ∙ w

pub bare_says : {level : OwnText} {j : Json} → held_of level ≡ [] → tokens (text_of level) ≡ json_tokens j
    → LevelSays level j
bare_says {j = j} none e =
    level_says j [] e (subst (λ l. HeldSay l []) (sym none) none_held) (none_stay (json_tokens j)) refl
