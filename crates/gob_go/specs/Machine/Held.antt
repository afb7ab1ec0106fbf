-- What a reader answers behind the number that follows a name in an interface: a definition, or the concrete type.
use Rattle.std.specs.Prelude.{Bool}
use Rattle.std.specs.Prelude.{◌≡◌, ℕ, ◌+◌, ◌≤◌, List, [], ◌∷◌, ◌++◌, length, Result}
use Rattle.gob_types.specs.Base.{base_table}
use Rattle.gob_types.specs.Defined.{Defined, types}
use Rattle.gob_types.specs.Table.{Table}
use Rattle.gob_stream.specs.declared.fault.Fault.{Fault}
use Rattle.gob_stream.specs.declared.stage.Extent.{Extent}
use Rattle.gob_stream.specs.Bounds.{Bounds}
use Rattle.gob_stream.specs.Machine.ReadParts.{AreTypes}
use Rattle.gob_filled.specs.Standing.{Level, in_filling, Stands}
use Rattle.gob_filled.specs.Opens.{Open, opens}
use Rattle.gob_go.specs.Machine.HasRead.{OthersAre}
use Rattle.gob_go.specs.Machine.Levels.{LevelAtNil, HeldIs}
use Rattle.gob_go.specs.Machine.Stages.{PartSteps}
use Rattle.gob_go.specs.declared.levels.Levels.{Levels}
use Rattle.gob_go.specs.declared.part.PartTaken.{PartTaken}

-- the bytes lead to where a number begins behind a name, or behind the count that follows a definition; this extent is
-- what is left of the segment there
pub data AwaitsType (keep : Bool) (L : Bounds) (T : Table) (offset : ℕ) (U : Table) (levels : Levels)
    (rest : Extent) : List ℕ
    → Type 0 where
  awaits_type : {z : List ℕ} {lv : Level} {around : List Level} {left d : ℕ} {o : Open} {os : List Open}
      (p : Stands base_table L T offset z U (lv ∷ around) (in_filling d) left) → opens p ≡ o ∷ os
      → LevelAtNil keep U levels.innermost lv [] d → OthersAre keep U levels around o os left
      → HeldIs levels.innermost.held o
      → rest.begin ≡ offset + length z → rest.end ≡ lv.end
      → AwaitsType keep L T offset U levels rest z

-- so many bytes of the stream were taken, up to behind the number there, which is such a one
pub record IsBehindNumber (keep : Bool) (L : Bounds) (d : Defined) (taken : ℕ) (levels : Levels) (rest : Extent)
    (IsSuch : List ℕ → Type 0) : Type 0 where
  pub table : Table
  pub offset : ℕ
  pub bytes : List ℕ
  pub number : List ℕ
  pub awaits : AwaitsType keep L table offset (types d) levels rest bytes
  pub numbered : IsSuch number
  pub taken_is : taken ≡ rest.begin + length number
  pub within : taken ≤ rest.end
  pub known : AreTypes L d

-- what a step over what follows it answers
pub record HeldNumberSteps (keep : Bool) (L : Bounds) (d d' : Defined) (taken : ℕ) (old new : Levels) (rest : Extent)
    (IsSuch : List ℕ → Type 0) (piece : List ℕ) (result : Result PartTaken Fault) : Type 0 where
  pub each : (T : Table) (offset : ℕ) (z a : List ℕ) → AwaitsType keep L T offset (types d) old rest z → IsSuch a
      → taken ≡ rest.begin + length a → taken ≤ rest.end → PartSteps keep L T offset d (z ++ a) piece new d' result
