-- What a call answers that puts tokens of JSON into a line: where it is well, their compact text stands behind the text
-- that stood before, with a comma where a value had just ended and another begins.
use Rattle.std.specs.Prelude.{◌≡◌, List, [], ◌∷◌, ◌++◌, Bool, fold, Result, OnOk}
use Rattle.std.proofs.Common.{◌∙◌, ap, refl, sym, append_assoc, append-nil}
use Rattle.std.proofs.lemmas.List.Sums.{fold-append}
use Rattle.json.specs.Json.{Json}
use Rattle.json.specs.Token.{Token}
use Rattle.json.specs.Print.{ArePrintable, ends, print_from}
use Rattle.json.proofs.Printed.Tokens.{print_from-append}
use Rattle.gob_plain.specs.declared.line.Line.{Line}
use Rattle.gob_plain.specs.WritesPlain.{AreTokensOf}

-- whether a value has just ended behind these tokens, where one had before them or not
abbrev pub ends_behind : Bool → List Token → Bool
ends_behind later ts = fold (λ _ t. ends t) later ts

-- the text of these tokens is put into the line
pub record IsPut (old new : Line) (ts : List Token) : Type 0 where
  pub printable : ArePrintable ts
  pub text : new.text.items ≡ old.text.items ++ print_from old.later ts
  pub later : new.later ≡ ends_behind old.later ts

-- the text of tokens of which this holds
pub record PutSome (old new : Line) (P : List Token → Type 0) : Type 0 where
  pub tokens : List Token
  pub says : P tokens
  pub put : IsPut old new tokens

-- so after a call that is well
abbrev pub PutsTokens : {E : Type 0} → Result (Unit {0}) E → Line → Line → List Token → Type 0
PutsTokens r old new ts = OnOk r (IsPut old new ts)

abbrev pub PutsSome : {E : Type 0} → Result (Unit {0}) E → Line → Line → (List Token → Type 0) → Type 0
PutsSome r old new P = OnOk r (PutSome old new P)

-- tokens of JSON of which this holds
abbrev pub PutsPlain : {E : Type 0} → Result (Unit {0}) E → Line → Line → (Json → Type 0) → Type 0
PutsPlain r old new P = PutsSome r old new (AreTokensOf P)

-- ---- one call behind another

pub printable_both : (xs ys : List Token) → ArePrintable xs → ArePrintable ys → ArePrintable (xs ++ ys)
unfolding ArePrintable
printable_both [] ys p q = q
printable_both (x ∷ xs) ys p q = (p.0, printable_both xs ys p.1 q)

pub put_both : {old mid new : Line} {xs ys : List Token} → IsPut old mid xs → IsPut mid new ys
    → IsPut old new (xs ++ ys)
put_both {old = old} {mid = mid} {xs = xs} {ys = ys} p q = record {
  printable = printable_both xs ys p.printable q.printable;
  text = q.text ∙ ap (λ t. t ++ print_from mid.later ys) p.text
      ∙ append_assoc old.text.items (print_from old.later xs) (print_from mid.later ys)
      ∙ ap (λ t. old.text.items ++ t) (ap (λ b. print_from old.later xs ++ print_from b ys) p.later
      ∙ sym (print_from-append old.later xs ys));
  later = q.later ∙ ap (λ b. ends_behind b ys) p.later ∙ sym (fold-append (λ _ t. ends t) old.later xs ys);
}

pub put_then : {old mid new : Line} {P Q R : List Token → Type 0} → PutSome old mid P
    → ((xs ys : List Token) → P xs → Q ys → R (xs ++ ys)) → PutSome mid new Q → PutSome old new R
put_then v f w = record {
  tokens = v.tokens ++ w.tokens;
  says = f v.tokens w.tokens v.says w.says;
  put = put_both v.put w.put;
}

-- nothing is put
pub none_put : {old : Line} → IsPut old old []
unfolding ArePrintable print_from
none_put {old = old} = record { printable = tt; text = sym (append-nil old.text.items); later = refl }

pub nothing_put : {P : List Token → Type 0} {old : Line} → P [] → PutSome old old P
nothing_put p = record { tokens = []; says = p; put = none_put }
