-- Where a piece ends, byte by byte.
use Rattle.std.proofs.Common.{◌≡◌, ◌∙◌, ℕ, ◌+◌, List, [], ◌∷◌, Bool, true, false, refl, ap, sym, arith}
use Rattle.std.specs.Prelude.{Option, Some, None, option_map, if◌then◌else◌}
use Rattle.gob_go_source.specs.declared.scan.Scan.{Scan}
use Rattle.gob_go_source.specs.declared.scan.Step.{Step}
use Rattle.gob_go_source.specs.declared.scan.Step.TheVariants as steps
use Rattle.gob_go_source.specs.Scanning.{end_of, end_by, may_end, step}

-- a number of bytes behind so many
abbrev pub moved : ℕ → Option ℕ → Option ℕ
moved at None = None
moved at (Some n) = Some (at + n)

pub begun : (o : Option ℕ) → moved 0 o ≡ o
begun None = refl
begun (Some n) = ap (λ (k : ℕ). Some k) (omega arith)

later : (at : ℕ) (o : Option ℕ) → moved at (option_map (λ n. n + 1) o) ≡ moved (at + 1) o
later at None = refl
later at (Some n) = ap (λ (k : ℕ). Some k) (omega arith)

-- what the next byte is to the piece says where it ends
by_step : (s : Scan) (t : Step) (b at : ℕ) (bs rest : List ℕ) (whole : Option ℕ) → moved at (end_of s rest) ≡ whole
    → rest ≡ b ∷ bs → t ≡ step s b → moved at (end_by t (λ v. end_of v bs)) ≡ whole
by_step s t b at bs rest whole e same f =
    ap (λ (u : Step). moved at (end_by u (λ v. end_of v bs))) f
    ∙ ap (λ (l : List ℕ). moved at (end_of s l)) (sym same) ∙ e

pub goes_on : (s next : Scan) (b at : ℕ) (bs rest : List ℕ) (whole : Option ℕ) → moved at (end_of s rest) ≡ whole
    → rest ≡ b ∷ bs → steps.On next ≡ step s b → moved (at + 1) (end_of next bs) ≡ whole
goes_on s next b at bs rest whole e same f =
    sym (later at (end_of next bs)) ∙ by_step s (steps.On next) b at bs rest whole e same f

pub ends_before : (s : Scan) (b at : ℕ) (bs rest : List ℕ) (whole : Option ℕ) → moved at (end_of s rest) ≡ whole
    → rest ≡ b ∷ bs → steps.Before ≡ step s b → Some at ≡ whole
ends_before s b at bs rest whole e same f =
    ap (λ (k : ℕ). Some k) (omega arith) ∙ by_step s steps.Before b at bs rest whole e same f

pub ends_behind : (s : Scan) (b at : ℕ) (bs rest : List ℕ) (whole : Option ℕ) → moved at (end_of s rest) ≡ whole
    → rest ≡ b ∷ bs → steps.Behind ≡ step s b → Some (at + 1) ≡ whole
ends_behind s b at bs rest whole e same f = by_step s steps.Behind b at bs rest whole e same f

pub is_broken : (s : Scan) (b at : ℕ) (bs rest : List ℕ) (whole : Option ℕ) → moved at (end_of s rest) ≡ whole
    → rest ≡ b ∷ bs → steps.Broken ≡ step s b → None ≡ whole
is_broken s b at bs rest whole e same f = by_step s steps.Broken b at bs rest whole e same f

at_last : (s : Scan) (may : Bool) (at : ℕ) (rest : List ℕ) (whole : Option ℕ) → moved at (end_of s rest) ≡ whole
    → rest ≡ [] → may ≡ may_end s → moved at (if may then Some 0 else None) ≡ whole
at_last s may at rest whole e same f =
    ap (λ (b : Bool). moved at (if b then Some 0 else None)) f
    ∙ ap (λ (l : List ℕ). moved at (end_of s l)) (sym same) ∙ e

pub ends_last : (s : Scan) (at : ℕ) (rest : List ℕ) (whole : Option ℕ) → moved at (end_of s rest) ≡ whole
    → rest ≡ [] → true ≡ may_end s → Some at ≡ whole
ends_last s at rest whole e same f =
    ap (λ (k : ℕ). Some k) (omega arith) ∙ at_last s true at rest whole e same f

pub breaks_last : (s : Scan) (at : ℕ) (rest : List ℕ) (whole : Option ℕ) → moved at (end_of s rest) ≡ whole
    → rest ≡ [] → false ≡ may_end s → None ≡ whole
breaks_last s at rest whole e same f = at_last s false at rest whole e same f
