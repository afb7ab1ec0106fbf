-- The fields of a type by their names, and those of a value by their numbers.
use Rattle.std.specs.Prelude.{◌≡◌, ℕ, ◌<◌, List, Option, Some, None, MatchOption, slice_get, if◌then◌else◌, nat_eq}
use Rattle.gob_types.specs.KindParts.{fields_named}
use Rattle.gob_types.specs.declared.kind.Field.{Field}
use Rattle.gob_types.specs.declared.kind.Shape.{Shape}
use Rattle.gob_value.specs.Tree.{Tree, Fields, no_field, field}

-- of these fields, the one of this number has this name
pub record IsNamed (fs : List Field) (name : List ℕ) (number : ℕ) : Type 0 where
  pub type : Field
  pub there : slice_get fs number ≡ Some type
  pub named : type.name ≡ name

-- none of the fields has this name
abbrev pub AreNotNamed : List Field → List ℕ → Type 0
AreNotNamed fs name = (k : ℕ) → ¬ IsNamed fs name k

-- the field of this number has this name, and none before it has
pub record IsFirstNamed (fs : List Field) (name : List ℕ) (number : ℕ) : Type 0 where
  pub named : IsNamed fs name number
  pub first : (k : ℕ) → k < number → ¬ IsNamed fs name k

-- the type has no field of this name, or is no struct
abbrev pub HasNoField : Shape → List ℕ → Type 0
HasNoField s name = MatchOption (fields_named s.kind) (Unit {0}) (λ fs. AreNotNamed fs name)

-- the type is a struct, and this is the number of its first field of this name
abbrev pub IsFirstField : Shape → List ℕ → ℕ → Type 0
IsFirstField s name number = MatchOption (fields_named s.kind) ⊥ (λ fs. IsFirstNamed fs name number)

-- the value of the first field of this number, where one is present
abbrev pub field_at : ℕ → Fields → Option Tree
field_at number no_field = None
field_at number (field f v fs) = if nat_eq f number then Some v else field_at number fs

-- the value of the field of this number of a struct
abbrev pub field_in : ℕ → Tree → Option Tree
field_in number (Tree.fields fs) = field_at number fs
field_in number _ = None
