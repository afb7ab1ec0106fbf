-- Text that was gathered is put out.
use Rattle.std.proofs.Common.{◌≡◌, ℕ, List, [], ◌++◌, Result, Ok, Err, OnOk, ap, sym, subst, ◌∙◌}
use Rattle.std.proofs.Common.{append-nil, append_assoc}
use Rattle.std.specs.Result.{IsErrAnd}
use Rattle.gob_json.specs.Machine.Gathered.{Gathers, PassesOn, gathers_both}

module _ {O E : Type 0} (puts : O → O → List ℕ → Result (Unit {0}) E → Type 0) where
  -- all that waited, so that nothing waits then
  pub flushed : {a b : O} (waits left : List ℕ) (r : Result (Unit {0}) E) → puts a b waits r → OnOk r (left ≡ [])
      → Gathers puts a b waits left r
  flushed waits left (Ok u) p none = record {
    gone = waits;
    whole = sym (append-nil waits) ∙ ap (λ l. waits ++ l) (sym none);
    out = p;
  }
  flushed waits left (Err e) p none = p

  -- all that waited, and the text behind it
  pub put_through : ((a b c : O) (x y : List ℕ) (r : Result (Unit {0}) E)
      → puts a b x (Ok tt) → puts b c y r → puts a c (x ++ y) r)
      → {a b c : O} (waits left text : List ℕ) (r : Result (Unit {0}) E) → puts a b waits (Ok tt) → left ≡ []
      → puts b c text r → Gathers puts a c (waits ++ text) left r
  put_through joined {a = a} {b = b} {c = c} waits left text (Ok u) p none q =
      flushed (waits ++ text) left (Ok u) (joined a b c waits text (Ok u) p q) none
  put_through joined {a = a} {b = b} {c = c} waits left text (Err e) p none q = joined a b c waits text (Err e) p q

  -- a text behind what was gathered and has gone in part
  pub gathered_behind : ((a b c : O) (x y : List ℕ) (r : Result (Unit {0}) E)
      → puts a b x (Ok tt) → puts b c y r → puts a c (x ++ y) r)
      → (a b c : O) (held waits left text : List ℕ) (r : Result (Unit {0}) E)
      → Gathers {E = E} puts a b held waits (Ok tt)
      → Gathers puts b c (waits ++ text) left r → Gathers puts a c (held ++ text) left r
  gathered_behind joined a b c held waits left text r p q =
      gathers_both puts joined a b c held waits left [] text r
      (subst (λ l. Gathers {E = E} puts a b l waits (Ok tt)) (sym (append-nil held)) p) q

  -- a text that waits behind what was gathered
  pub gathered_on : {a b : O} {held waits left : List ℕ} (text : List ℕ) → PassesOn {E = E} puts a b held waits
      → left ≡ waits ++ text → PassesOn {E = E} puts a b (held ++ text) left
  gathered_on {waits = waits} text p e = record {
    gone = p.gone;
    whole = ap (λ l. l ++ text) p.whole ∙ append_assoc p.gone waits text ∙ ap (λ l. p.gone ++ l) (sym e);
    out = p.out;
  }

  -- a text for which there was to be room
  pub gathered_failed : ((a b : O) (x y : List ℕ) (e : E) → puts a b x (Err e) → puts a b (x ++ y) (Err e))
      → (a b : O) (held left text : List ℕ) {f : E} (q : Result (Unit {0}) E) → IsErrAnd q (λ e. e ≡ f)
      → puts a b held (Err f) → Gathers puts a b (held ++ text) left q
  gathered_failed cut a b held left text (Ok u) h p = absurd h
  gathered_failed cut a b held left text {f = f} (Err e) h p =
      subst (λ e. puts a b (held ++ text) (Err e)) (sym h) (cut a b held text f p)
