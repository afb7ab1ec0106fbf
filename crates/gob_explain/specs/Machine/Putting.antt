-- Lines behind lines that were put out up to the first fault, for private clauses.
use Rattle.std.specs.Prelude.{◌≡◌, ℕ, List, [], ◌++◌, Option, None, Some, Result, Ok, Err}
use Rattle.std.proofs.Common.{refl, sym, subst, ap, ◌∙◌, append_assoc}
use Rattle.gob_explain.specs.Column.{IsSomeLine}
use Rattle.gob_explain.specs.Putting.{PutsOn, PutsUpTo}
use Rattle.gob_explain.specs.declared.text.lines_out.LineFault.{LineFault}
use Rattle.gob_explain.specs.declared.text.lines_out.LineFault.TheVariants as fault

-- a line was put out, or not, with this answer
abbrev pub PutsLine : {O E : Type 0} → (O → O → List ℕ → Result (Unit {0}) E → Type 0) → (offset : ℕ)
    → (bytes : List ℕ) → (levels : ℕ) → O → O → Result (Unit {0}) (LineFault E) → Type 0
PutsLine puts offset bytes levels old new (Ok u) =
    (text : List ℕ) × IsSomeLine offset bytes levels text × puts old new text (Ok tt)
PutsLine puts offset bytes levels old new (Err fault.Memory) = new ≡ old
PutsLine puts offset bytes levels old new (Err (fault.Out e)) =
    (text : List ℕ) × IsSomeLine offset bytes levels text × puts old new text (Err e)

module _ {O E : Type 0} (puts : O → O → List ℕ → Result (Unit {0}) E → Type 0) where
  -- no text
  pub puts_nothing : ((a : O) → puts a a [] (Ok tt)) → (a : O) (f : Option (LineFault E)) → PutsOn puts a f a f []
  puts_nothing nothing a None = nothing a
  puts_nothing nothing a (Some e) = (refl, refl)

  -- a text behind another
  up_to_both : ((a b c : O) (x y : List ℕ) (r : Result (Unit {0}) E)
      → puts a b x (Ok tt) → puts b c y r → puts a c (x ++ y) r)
      → (a b c : O) (x y : List ℕ) (f : Option (LineFault E)) → puts a b x (Ok tt) → PutsUpTo puts b c y f
      → PutsUpTo puts a c (x ++ y) f
  up_to_both joined a b c x y None p q = joined a b c x y (Ok tt) p q
  up_to_both joined a b c x y (Some fault.Memory) p q = (
    x ++ q.0,
    q.1,
    ap (λ (l : List ℕ). x ++ l) q.2 ∙ sym (append_assoc x q.0 q.1),
    joined a b c x q.0 (Ok tt) p q.3,
  )
  up_to_both joined a b c x y (Some (fault.Out e)) p q = joined a b c x y (Err e) p q

  cut_both : ((a b : O) (x y : List ℕ) (e : E) → puts a b x (Err e) → puts a b (x ++ y) (Err e))
      → (a b : O) (x y : List ℕ) (e : LineFault E) → PutsUpTo puts a b x (Some e) → PutsUpTo puts a b (x ++ y) (Some e)
  cut_both cut a b x y fault.Memory p =
      (p.0, p.1 ++ y, ap (λ (l : List ℕ). l ++ y) p.2 ∙ append_assoc p.0 p.1 y, p.3)
  cut_both cut a b x y (fault.Out e) p = cut a b x y e p

  pub puts_both : ((a b c : O) (x y : List ℕ) (r : Result (Unit {0}) E)
      → puts a b x (Ok tt) → puts b c y r → puts a c (x ++ y) r)
      → ((a b : O) (x y : List ℕ) (e : E) → puts a b x (Err e) → puts a b (x ++ y) (Err e))
      → (a b c : O) (f g h : Option (LineFault E)) (x y : List ℕ) → PutsOn puts a f b g x → PutsOn puts b g c h y
      → PutsOn puts a f c h (x ++ y)
  puts_both joined cut a b c None None h x y p q = up_to_both joined a b c x y h p q
  puts_both joined cut a b c None (Some e) h x y p q =
      subst (λ (c : O). PutsUpTo puts a c (x ++ y) h) (sym q.0)
      (subst (λ (h : Option (LineFault E)). PutsUpTo puts a b (x ++ y) h) (sym q.1) (cut_both cut a b x y e p))
  puts_both joined cut a b c (Some e) g h x y p q =
      let there = subst (λ (g : Option (LineFault E)). PutsOn puts b g c h y) p.1 q in
      (there.0 ∙ p.0, there.1)
