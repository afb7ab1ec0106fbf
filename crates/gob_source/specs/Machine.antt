-- What the code keeps of fields and of registered names that it has seen.
use Rattle.std.specs.Prelude.{◌≡◌, ℕ, List, [], ◌∷◌, ◌++◌, Bool, if◌then◌else◌, Result, OnOk}
use Rattle.std.specs.Str.{bytes_eq}
use Rattle.std.specs.List.{list_any}
use Rattle.gob_types.specs.declared.kind.Field.{Field}
use Rattle.gob_types.specs.declared.id.TypeId.{TypeId}
use Rattle.gob_types.specs.Machine.Entered.{same_id}
use Rattle.gob_source.specs.Program as program
use Rattle.gob_source.specs.Registered.{Naming}
use Rattle.gob_source.specs.Source.{is_field_name}

abbrev pub has_name : List ℕ → List (List ℕ) → Bool
has_name name names = list_any (λ other. bytes_eq name other) names

abbrev pub with_name : List (List ℕ) → List ℕ → List (List ℕ)
with_name names name = if has_name name names then names else names ++ name ∷ []

-- the names are those of the fields
pub record KnowsNames (names : List (List ℕ)) (seen : List Field) : Type 0 where
  pub each : (name : List ℕ) → has_name name names ≡ is_field_name name seen

-- the text of a field behind those that were seen was appended, and its name is known then
abbrev pub AddsField : {E : Type 0} → Result (Unit {0}) E → (old new : List ℕ) → (names now : List (List ℕ)) → Field
    → (List Field → List ℕ) → Type 0
AddsField r old new names now f text =
    OnOk r ((seen : List Field) → KnowsNames names seen → (new ≡ old ++ text seen) × KnowsNames now (seen ++ f ∷ []))

-- ---- names that were registered

-- the names are those of what was registered, and the ids the types
pub record KnowsSeen (names : List (List ℕ)) (ids : List TypeId) (seen : List Naming) : Type 0 where
  pub names_are : (name : List ℕ) → has_name name names ≡ program.has_name name seen
  pub types_are : (t : TypeId) → list_any (same_id t) ids ≡ program.has_type t seen

-- the text of a name behind those that were seen was appended, and it is known then
abbrev pub AddsNaming : {E : Type 0} → Result (Unit {0}) E → (old new : List ℕ) → (names names' : List (List ℕ))
    → (ids ids' : List TypeId) → Naming → (List Naming → List ℕ) → Type 0
AddsNaming r old new names names' ids ids' p text =
    OnOk r ((seen : List Naming) → KnowsSeen names ids seen
    → (new ≡ old ++ text seen) × KnowsSeen names' ids' (seen ++ p ∷ []))
