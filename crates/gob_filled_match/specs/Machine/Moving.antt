-- What fills the nils of a received value, by their numbers. For private clauses.
use Rattle.std.specs.Prelude.{◌≡◌, ℕ, suc, List, [], ◌∷◌, Option, Some, slice_get}
use Rattle.gob_types.specs.declared.id.TypeId.{TypeId}
use Rattle.gob_types.specs.Table.{Table}
use Rattle.gob_filled.specs.Filled.{Definitions, Filled, Fillings, no_filling, filling}
use Rattle.gob_go.specs.Meaning.{AreFillings}
use Rattle.gob_go.specs.declared.filled.Filling.{Filling, out-Filling}
use Rattle.gob_filled_match.specs.Received.{HasNumber}
use Rattle.gob_filled_match.specs.declared.taking.FilledNil.{FilledNil}

-- each nil is filled with what has its number
pub data AreMoved (all : Fillings) : List FilledNil → Fillings → Type 0 where
  no_nil : AreMoved all [] no_filling
  nil_then : {nil : FilledNil} {nils : List FilledNil} {s : List ℕ} {ds : Definitions} {u : TypeId} {w : Filled}
      {fs : Fillings} → HasNumber all nil.number s ds u w → AreMoved all nils fs
      → AreMoved all (nil ∷ nils) (filling nil.place s ds u w fs)

-- what was kept stands for them
pub record MovesFillings (T : Table) (all : Fillings) (nils : List FilledNil) (moved : List Filling) : Type 0 where
  pub fillings : Fillings
  pub are : AreMoved all nils fillings
  pub mean : AreFillings T moved fillings

-- ---- under way

-- the second filling is the first one, at this place
pub record IsPlaced (f : Filling) (place : ℕ) (g : Filling) : Type 0 where
  pub place_is : (out-Filling g).place ≡ place
  pub name : (out-Filling g).name ≡ (out-Filling f).name
  pub definitions : (out-Filling g).definitions ≡ (out-Filling f).definitions
  pub id : (out-Filling g).id ≡ (out-Filling f).id
  pub value : (out-Filling g).value ≡ (out-Filling f).value

-- the filling of this number, from 1 on, is among those that wait
pub record HasWaited (waiting : List (Option Filling)) (number : ℕ) (f : Filling) : Type 0 where
  pub index : ℕ
  pub counted : number ≡ suc index
  pub there : slice_get waiting index ≡ Some (Some f)

-- each that waits did so before
abbrev pub AreStillThere : (old new : List (Option Filling)) → Type 0
AreStillThere old new = (k : ℕ) (f : Filling) → slice_get new k ≡ Some (Some f) → slice_get old k ≡ Some (Some f)
