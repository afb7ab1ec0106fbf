-- Whether what is said of fields fits the wanted types. (docs/LIBRARY.md, Matching and receiving: this project's own.)
use Rattle.std.specs.Prelude.{◌≡◌, ℕ, List, take, Option, Some, None, IsTrue, slice_get}
use Rattle.gob_types.specs.declared.id.TypeId.{TypeId}
use Rattle.gob_types.specs.declared.kind.Field.{Field}
use Rattle.gob_types.specs.declared.kind.Shape.{Shape}
use Rattle.gob_types.specs.KindParts.{fields_named}
use Rattle.gob_types.specs.Table.{Table}
use Rattle.gob_rename.specs.declared.fault.Misfit.{Misfit}
use Rattle.gob_rename.specs.declared.fault.Misfit.TheVariants as misfit
use Rattle.gob_rename.specs.declared.fault.RenameFault.{RenameFault}
use Rattle.gob_rename.specs.declared.fault.RenameFault.TheVariants as fault
use Rattle.gob_rename.specs.declared.rename.Rename.{Rename}
use Rattle.gob_rename.specs.Renaming.{definitions_of, is_told, renamed}

-- one of the fields has this property
pub record HasSuch (P : Field → Type 0) (fields : List Field) : Type 0 where
  pub number : ℕ
  pub field : Field
  pub there : slice_get fields number ≡ Some field
  pub holds : P field

-- there are fields, and they have this property
abbrev pub OfFields : (List Field → Type 0) → Option (List Field) → Type 0
OfFields P None = ⊥
OfFields P (Some fields) = P fields

-- it tells of one of the fields of structs of this name
abbrev pub HasTold : Rename → (struct : List ℕ) → List Field → Type 0
HasTold r struct fields = HasSuch (λ field. IsTrue (is_told r struct field.name)) fields

-- one of the fields has this name
abbrev pub HasNamed : (name : List ℕ) → List Field → Type 0
HasNamed name fields = HasSuch (λ field. field.name ≡ name) fields

-- it tells of a field of this shape
abbrev pub TellsOf : Rename → Shape → Type 0
TellsOf r s = OfFields (λ fields. HasTold r s.name fields) (fields_named s.kind)

-- and the shape has a field of the old name too
abbrev pub TakesName : Rename → Shape → Type 0
TakesName r s = OfFields (λ fields. HasTold r s.name fields × HasNamed r.old.now fields) (fields_named s.kind)

-- one of the types that the table defines has this property
pub record Defines (P : Shape → Type 0) (T : Table) : Type 0 where
  pub number : ℕ
  pub entry : TypeId × Shape
  pub there : slice_get (definitions_of T) number ≡ Some entry
  pub holds : P entry.1

-- a struct has such a field, and none has one of the old name beside it
pub record Fits (r : Rename) (T : Table) : Type 0 where
  pub told : Defines (λ s. TellsOf r s) T
  pub free : ¬ Defines (λ s. TakesName r s) T

-- why it doesn't fit
abbrev pub IsMisfit : Rename → Table → Misfit → Type 0
IsMisfit r T misfit.NoField = ¬ Defines (λ s. TellsOf r s) T
IsMisfit r T misfit.OldNameTaken = Defines (λ s. TakesName r s) T

-- each fits the names that those before it leave
abbrev pub AllFit : List Rename → Table → Type 0
AllFit rs T = (number : ℕ) (r : Rename) → slice_get rs number ≡ Some r → Fits r (renamed (take number rs) T)

-- the one of this number doesn't, for this reason
pub record Misfits (rs : List Rename) (T : Table) (number : ℕ) (why : Misfit) : Type 0 where
  pub rename : Rename
  pub there : slice_get rs number ≡ Some rename
  pub is : IsMisfit rename (renamed (take number rs) T) why

abbrev pub IsRenameFault : List Rename → Table → RenameFault → Type 0
IsRenameFault rs T (fault.Misfits number why) = Misfits rs T number why
IsRenameFault rs T fault.Memory = Unit {0}
