-- Pieces of text that are put out one behind another, up to one that fails.
use Rattle.std.proofs.Common.{◌≡◌, ℕ, List, ◌++◌, Result, Ok, Err, sym, subst}
use Rattle.std.specs.Result.{IsErrAnd}

module _ {O E : Type 0} (puts : O → O → List ℕ → Result (Unit {0}) E → Type 0) where
  -- the error that a `?` returns
  pub ended : {a b : O} {x : List ℕ} {f : E} (r : Result (Unit {0}) E) → IsErrAnd r (λ e. e ≡ f) → puts a b x (Err f)
      → puts a b x r
  ended (Ok u) h p = absurd h
  ended {a = a} {b = b} {x = x} (Err e) h p = subst (λ e. puts a b x (Err e)) (sym h) p

  -- the first of two pieces failed
  pub piece_failed : {a b : O} {x : List ℕ} {f : E}
      → ((a b : O) (x y : List ℕ) (e : E) → puts a b x (Err e) → puts a b (x ++ y) (Err e))
      → (y : List ℕ) (r : Result (Unit {0}) E) → IsErrAnd r (λ e. e ≡ f) → puts a b x (Err f) → puts a b (x ++ y) r
  piece_failed {a = a} {b = b} {x = x} {f = f} cut y r h p = ended r h (cut a b x y f p)
