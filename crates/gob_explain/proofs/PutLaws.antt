-- Lines that are put out, up to the first fault.
use Rattle.std.proofs.Common.{◌≡◌, ℕ, true, false, List, [], Option, None, Some, Result, Ok, Err}
use Rattle.std.proofs.Common.{refl, sym, subst, is_some}
use Rattle.std.proofs.lemmas.Bool.{false≢true}
use Rattle.std.proofs.lemmas.Str.{chars-nil}
use Rattle.std.specs.Result.{IsErrAnd, MatchResult}
use Rattle.std.specs.Str.{NonePass}
use Rattle.gob_words.specs.Escaped.{is_obeyed}
use Rattle.gob_explain.specs.Column.{IsSomeLine, Meaning, line_text}
use Rattle.gob_explain.specs.Machine.Putting.{PutsLine}
use Rattle.gob_explain.specs.Putting.{PutsMore}
use Rattle.gob_explain.specs.declared.text.lines_out.LineFault.{LineFault}
use Rattle.gob_explain.specs.declared.text.lines_out.LineFault.TheVariants as fault

-- no words
no_words : Meaning
no_words = record {
  text = [];
  characters = ([], (refl, refl));
  unobeyed = subst (λ cs. NonePass is_obeyed cs) (sym chars-nil) tt;
}

-- a line of other bytes that are the same
pub some_line_as : {p o l m : ℕ} {b c text : List ℕ} → p ≡ o → c ≡ b → l ≡ m → IsSomeLine p c l text
    → IsSomeLine o b m text
some_line_as {o = o} {l = l} {b = b} {c = c} {text = text} e f g h =
    subst (λ l. IsSomeLine o b l text) g
    (subst (λ b. IsSomeLine o b l text) f (subst (λ p. IsSomeLine p c l text) e h))

module _ {O E : Type 0} (puts : O → O → List ℕ → Result (Unit {0}) E → Type 0) where
  -- a line for which there is no memory
  pub no_line_put : (offset : ℕ) (bytes : List ℕ) (levels : ℕ) (a : O) (r : Result (Unit {0}) (LineFault E))
      → IsErrAnd r (λ e. e ≡ fault.Memory) → PutsLine puts offset bytes levels a a r
  no_line_put offset bytes levels a (Ok u) h = absurd h
  no_line_put offset bytes levels a (Err e) h =
      subst (λ e. PutsLine puts offset bytes levels a a (Err e)) (sym h) refl

  -- a line that was put out, or at which the output failed
  pub line_goes_out : (offset : ℕ) (bytes : List ℕ) (levels : ℕ) (a b : O) (line : List ℕ) (q : Result (Unit {0}) E)
      (r : Result (Unit {0}) (LineFault E)) → IsSomeLine offset bytes levels line → puts a b line q
      → MatchResult q (λ u. r ≡ Ok u) (λ e. IsErrAnd r (λ d. d ≡ fault.Out e)) → PutsLine puts offset bytes levels a b r
  line_goes_out offset bytes levels a b line (Ok u) r h p e =
      subst (λ r. PutsLine puts offset bytes levels a b r) (sym e) (line, h, p)
  line_goes_out offset bytes levels a b line (Err e) (Ok u) h p f = absurd f
  line_goes_out offset bytes levels a b line (Err e) (Err d) h p f =
      subst (λ d. PutsLine puts offset bytes levels a b (Err d)) (sym f) (line, h, p)

  -- a line behind those before
  pub line_put : (offset : ℕ) (bytes : List ℕ) (levels : ℕ) (a b : O) (f g : Option (LineFault E)) (u : Unit {0})
      → is_some f ≡ false → g ≡ f → PutsLine puts offset bytes levels a b (Ok u)
      → PutsMore puts a f b g (IsSomeLine offset bytes levels)
  line_put offset bytes levels a b None g u none same h =
      subst (λ (g : Option (LineFault E)). PutsMore puts a None b g (IsSomeLine offset bytes levels)) (sym same)
      record { text = h.0; put = h.2; holds = h.1 }
  line_put offset bytes levels a b (Some e) g u none same h = absurd (false≢true (sym none))

  pub line_fails : ((a : O) → puts a a [] (Ok tt)) → (offset : ℕ) (bytes : List ℕ) (levels : ℕ) (a b : O)
      (f : Option (LineFault E)) (e : LineFault E) → is_some f ≡ false → PutsLine puts offset bytes levels a b (Err e)
      → PutsMore puts a f b (Some e) (IsSomeLine offset bytes levels)
  line_fails nothing offset bytes levels a b None fault.Memory none h =
      let line = line_text offset bytes levels no_words.text in
      record {
        text = line;
        put = ([], line, refl, subst (λ (b : O). puts a b [] (Ok tt)) (sym h) (nothing a));
        holds = (no_words, refl);
      }
  line_fails nothing offset bytes levels a b None (fault.Out e) none h = record { text = h.0; put = h.2; holds = h.1 }
  line_fails nothing offset bytes levels a b (Some d) e none h = absurd (false≢true (sym none))

  -- none, behind a fault
  pub line_skipped : (offset : ℕ) (bytes : List ℕ) (levels : ℕ) (a : O) (f : Option (LineFault E)) → is_some f ≡ true
      → PutsMore puts a f a f (IsSomeLine offset bytes levels)
  line_skipped offset bytes levels a None some = absurd (false≢true some)
  line_skipped offset bytes levels a (Some e) some = record
      { text = line_text offset bytes levels no_words.text; put = (refl, refl); holds = (no_words, refl) }
