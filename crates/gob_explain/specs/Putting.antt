-- Lines that are put out one behind another, up to the first fault. (docs/FORMAT.md, Explained bytes: this project's
-- own.)
use Rattle.std.specs.Prelude.{◌≡◌, ℕ, List, ◌++◌, Option, None, Some, Result, Ok, Err}
use Rattle.gob_explain.specs.declared.text.lines_out.LineFault.{LineFault}
use Rattle.gob_explain.specs.declared.text.lines_out.LineFault.TheVariants as fault

-- the output took the text; where memory was wanting for a line, a prefix of it; or it failed on the text
abbrev pub PutsUpTo : {O E : Type 0} → (O → O → List ℕ → Result (Unit {0}) E → Type 0) → O → O → List ℕ
    → Option (LineFault E) → Type 0
PutsUpTo puts old new text None = puts old new text (Ok tt)
PutsUpTo puts old new text (Some fault.Memory) =
    (prefix : List ℕ) × (rest : List ℕ) × (text ≡ prefix ++ rest) × puts old new prefix (Ok tt)
PutsUpTo puts old new text (Some (fault.Out e)) = puts old new text (Err e)

-- the text was put out up to the first fault, behind what was put out so: behind a fault nothing is
abbrev pub PutsOn : {O E : Type 0} → (O → O → List ℕ → Result (Unit {0}) E → Type 0) → O → Option (LineFault E) → O
    → Option (LineFault E) → List ℕ → Type 0
PutsOn puts old None new last text = PutsUpTo puts old new text last
PutsOn puts old (Some e) new last text = (new ≡ old) × (last ≡ Some e)

-- a text was put out so of which this holds
pub record PutsMore {O E : Type 0} (puts : O → O → List ℕ → Result (Unit {0}) E → Type 0) (old : O)
    (first : Option (LineFault E)) (new : O) (last : Option (LineFault E)) (P : List ℕ → Type 0) : Type 0 where
  pub text : List ℕ
  pub put : PutsOn puts old first new last text
  pub holds : P text
