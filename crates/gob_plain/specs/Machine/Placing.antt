-- What fills the nils of a value, as it is put together. For private clauses.
use Rattle.std.specs.Prelude.{◌≡◌, ℕ, ◌+◌, Bool, true, false, List, [], ◌∷◌, Option, Some, None, drop, reverse}
use Rattle.std.specs.Borrow.{Bor}
use Rattle.json.specs.Json.{Json}
use Rattle.gob_types.specs.Table.{Table}
use Rattle.gob_tape.specs.declared.kind.ValueKind.{ValueKind}
use Rattle.gob_tape.specs.declared.kind.ValueKind.TheVariants as kind
use Rattle.gob_plain.specs.declared.style.Style.{Style}
use Rattle.gob_plain.specs.declared.fillers.Filler.{Filler}
use Rattle.gob_plain.specs.declared.go.level.HeldText.{HeldText}
use Rattle.gob_plain.specs.Machine.Levels.{LevelSays, level_of, name_of}
use Rattle.gob_plain.specs.Machine.Parting.{AreParted}
use Rattle.gob_filled.specs.Filled as spelled
use Rattle.gob_go.specs.Meaning.{IsFilled}
use Rattle.gob_go.specs.declared.filled.Filling.{Filling, out-Filling}
use Rattle.gob_plain.specs.HeldPlain.{SaysFilled}
use Rattle.gob_plain.specs.declared.go.placing.Left.{Left}

-- the name by which a value is tagged, where it is
abbrev pub IsTag : Bool → List ℕ → Option (Bor (List ℕ)) → Type 0
IsTag true b o = (name : Bor (List ℕ)) × (o ≡ Some name) × (name.now ≡ b)
IsTag false b o = o ≡ None

-- the number of a part of this kind, where it is nil
abbrev pub own_nil : ValueKind → ℕ → List ℕ
own_nil kind.Nil n = n ∷ []
own_nil _ n = []

-- the value says what the filling has its nil hold
pub record HeldFits (tagged : Bool) (style : Style) (T : Table) (kept : Filling) (held : HeldText) : Type 0 where
  pub name : IsTag tagged (out-Filling kept).name.items (name_of held)
  pub some : (i : Json) × LevelSays (level_of held) i
  pub says : (w : spelled.Filled) → IsFilled T (out-Filling kept).id (out-Filling kept).value w
      → (i : Json) × SaysFilled tagged style T (out-Filling kept).id w i × LevelSays (level_of held) i

-- one for each filling
pub data AllFit (tagged : Bool) (style : Style) (T : Table) : List Filling → List HeldText → Type 0 where
  none_fits : AllFit tagged style T [] []
  then_fits : {kept : Filling} {held : HeldText} {all : List Filling} {more : List HeldText}
      → HeldFits tagged style T kept held → AllFit tagged style T all more
      → AllFit tagged style T (kept ∷ all) (held ∷ more)

-- the nils are parts of these numbers, and each filler stands so many parts further than the one before: what fills
-- each nil
pub data AreIn : ℕ → (nils gaps : List ℕ) → List HeldText → List (Option HeldText) → Type 0 where
  none_left : {behind : ℕ} → AreIn behind [] [] [] []
  nothing_in : {behind n : ℕ} {nils gaps : List ℕ} {fs : List HeldText} {all : List (Option HeldText)}
      → AreIn behind nils gaps fs all → AreIn behind (n ∷ nils) gaps fs (None ∷ all)
  filler_in : {behind n gap : ℕ} {nils gaps : List ℕ} {f : HeldText} {fs : List HeldText} {all : List (Option HeldText)}
      → n ≡ behind + gap → AreIn (n + 1) nils gaps fs all
      → AreIn behind (n ∷ nils) (gap ∷ gaps) (f ∷ fs) (Some f ∷ all)

-- so, and parted
abbrev pub ArePlaced : (nils gaps : List ℕ) → List HeldText → List (Option Filler) → List (Option HeldText) → Type 0
ArePlaced nils gaps fillers texts held = (all : List (Option HeldText)) × AreIn 0 nils gaps fillers all
    × AreParted all texts held

-- of the fillers that are left
abbrev pub gaps_left : Left → List ℕ
gaps_left left = drop left.next left.gaps.now

abbrev pub fillers_left : Left → List HeldText
fillers_left left = reverse left.fillers.items
