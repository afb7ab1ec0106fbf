-- Text that is gathered before it is put out: what waited, and then the text, was put out as far as it doesn't wait.
-- For private clauses.
use Rattle.std.specs.Prelude.{◌≡◌, ℕ, List, [], ◌++◌, Result, Ok, Err}
use Rattle.std.proofs.Common.{sym, ap, ◌∙◌, append_assoc, append-nil}

-- what was put out, and what waits then, are what was there before
pub record PassesOn {O E : Type 0} (puts : O → O → List ℕ → Result (Unit {0}) E → Type 0) (old new : O)
    (before after : List ℕ) : Type 0 where
  pub gone : List ℕ
  pub whole : before ≡ gone ++ after
  pub out : puts old new gone (Ok tt)

-- What was put out, and what waits then, are what was there before; or a prefix of that was put out before an error.
abbrev pub Gathers : {O E : Type 0} → (O → O → List ℕ → Result (Unit {0}) E → Type 0) → (old new : O)
    → (before after : List ℕ) → Result (Unit {0}) E → Type 0
Gathers puts old new before after (Ok u) = PassesOn puts old new before after
Gathers puts old new before after (Err e) = puts old new before (Err e)

module _ {O E : Type 0} (puts : O → O → List ℕ → Result (Unit {0}) E → Type 0) where
  -- nothing
  pub gathers_nothing : (a : O) (waits : List ℕ) → puts a a [] (Ok tt)
      → Gathers {E = E} puts a a (waits ++ []) waits (Ok tt)
  gathers_nothing a waits p = record { gone = []; whole = append-nil waits; out = p }

  -- a text behind another
  pub gathers_both : ((a b c : O) (x y : List ℕ) (r : Result (Unit {0}) E)
      → puts a b x (Ok tt) → puts b c y r → puts a c (x ++ y) r)
      → (a b c : O) (held waits left x y : List ℕ) (r : Result (Unit {0}) E)
      → Gathers puts a b (held ++ x) waits (Ok tt)
      → Gathers puts b c (waits ++ y) left r → Gathers puts a c (held ++ (x ++ y)) left r
  gathers_both joined a b c held waits left x y (Ok u) p q = record {
    gone = p.gone ++ q.gone;
    whole = sym (append_assoc held x y) ∙ ap (λ l. l ++ y) p.whole ∙ append_assoc p.gone waits y
        ∙ ap (λ l. p.gone ++ l) q.whole ∙ sym (append_assoc p.gone q.gone left);
    out = joined a b c p.gone q.gone (Ok u) p.out q.out;
  }
  gathers_both joined a b c held waits left x y (Err e) p q =
      let whole = sym (append_assoc held x y) ∙ ap (λ l. l ++ y) p.whole ∙ append_assoc p.gone waits y in
      rw whole (joined a b c p.gone (waits ++ y) (Err e) p.out q)

  -- a prefix of a text
  pub gathers_more : ((a b : O) (x y : List ℕ) (e : E) → puts a b x (Err e) → puts a b (x ++ y) (Err e)) → (a b : O)
      → (held left x y : List ℕ) (e : E) → Gathers puts a b (held ++ x) left (Err e)
      → Gathers puts a b (held ++ (x ++ y)) left (Err e)
  gathers_more cut a b held left x y e p = rw (sym (append_assoc held x y)) (cut a b (held ++ x) y e p)
