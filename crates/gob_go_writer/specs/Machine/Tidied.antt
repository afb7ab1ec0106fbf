-- What is kept of a value and of its fillings, before and behind tidying.
use Rattle.std.specs.Prelude.{◌≡◌, ℕ, ◌+◌, ◌≤◌, List, length, Some, slice_get}
use Rattle.gob_num.specs.Unsigned.{AreBytes}
use Rattle.gob_types.specs.Base.{wire_type}
use Rattle.gob_types.specs.declared.id.TypeId.{TypeId}
use Rattle.gob_types.specs.Defined.{IsTable}
use Rattle.gob_types.specs.Table.{Table}
use Rattle.gob_value.specs.Fits.{Fits}
use Rattle.gob_value.specs.Tidy.{Tidies}
use Rattle.gob_value.specs.Top.{SpellsTop}
use Rattle.gob_value.specs.Tree.{Tree}
use Rattle.gob_value.specs.View.{view}
use Rattle.gob_tidy.specs.SameNil.{IsSameNil, MovesNils}
use Rattle.gob_filled.specs.Filled.{Definitions, no_definitions, definition, Fillings, no_filling, filling}
use Rattle.gob_filled.specs.Filled as spelled
use Rattle.gob_go.specs.Meaning.{IsFilled}
use Rattle.gob_go.specs.declared.filled.Definition.{Definition}
use Rattle.gob_go.specs.declared.filled.Filled.{Filled}
use Rattle.gob_go.specs.declared.filled.Filling.{Filling, out-Filling}
use Rattle.gob_go_writer.specs.TidyItem.{TidiesDefinitions}
use Rattle.gob_go_writer.specs.Machine.Each.{HoldsOfEach}
use Rattle.gob_go_writer.specs.Machine.Places.{AreCloser, places_in}
use Rattle.gob_go_writer.specs.declared.tidy.skeleton.Skeleton.{Skeleton}

-- a value of type 16, where the types are those of a stream
pub record IsDescription (T : Table) (v : Tree) : Type 0 where
  pub known : IsTable T
  pub fits : Fits T wire_type v

-- each description of the definitions is one
abbrev pub AreDescriptions : Table → Definitions → Type 0
AreDescriptions T no_definitions = Unit {0}
AreDescriptions T (definition id v ds) = IsDescription T v × AreDescriptions T ds

-- the second value is the tidy form of the first, a description
pub record IsDescriptionTidied (T : Table) (old new : Tree) : Type 0 where
  pub tidies : Tidies T wire_type old new
  pub is : IsDescription T new

mutual
  -- the second value is the tidy form of the first, and no piece between nils got longer
  pub data TidiesClosely (T : Table) : TypeId → spelled.Filled → spelled.Filled → Type 0 where
    tidies_closely : {t : TypeId} {v w : Tree} {fs gs : Fillings} {b c : List ℕ} → SpellsTop T t v b → SpellsTop T t w c
        → AreBytes c → Tidies T t v w → MovesClosely T t b c 0 0 fs gs
        → TidiesClosely T t (spelled.filled v fs) (spelled.filled w gs)

  -- behind so many bytes of both
  pub data MovesClosely (T : Table) : TypeId → (b c : List ℕ) → (from to : ℕ) → Fillings → Fillings → Type 0 where
    none_left : {t : TypeId} {b c : List ℕ} {from to : ℕ} → to ≤ length c → length c + from ≤ length b + to
        → MovesClosely T t b c from to no_filling no_filling
    then_moved : {t u : TypeId} {b c s : List ℕ} {from to p q : ℕ} {ds es : Definitions} {v w : spelled.Filled}
        {fs gs : Fillings} → to ≤ q → q + from ≤ p + to → IsSameNil T t b c p q → TidiesDefinitions T ds es
        → AreDescriptions T es → TidiesClosely T u v w → MovesClosely T t b c (p + 1) (q + 1) fs gs
        → MovesClosely T t b c from to (filling p s ds u v fs) (filling q s es u w gs)

-- whatever value is kept in the first, its tidy form is in the second
pub record IsTidyOf (T : Table) (id : TypeId) (value : spelled.Filled) (new : Filled) : Type 0 where
  pub form : spelled.Filled
  pub tidies : TidiesClosely T id value form
  pub means : IsFilled T id new form

abbrev pub IsValueTidied : Table → TypeId → (old new : Filled) → Type 0
IsValueTidied T id old new = (value : spelled.Filled) → IsFilled T id old value → IsTidyOf T id value new

-- a definition, with its description in its tidy form
pub record IsDefinitionTidied (T : Table) (old new : Definition) : Type 0 where
  pub id : new.id ≡ old.id
  pub described : IsDescriptionTidied T (view old.described) (view new.described)

abbrev pub AreDefinitionsTidied : Table → (old new : List Definition) → Type 0
AreDefinitionsTidied T = HoldsOfEach (λ number. IsDefinitionTidied T)

-- what fills a nil, in its tidy form for the nil at the place
pub record IsFillingTidied (T : Table) (place : ℕ) (old new : Filling) : Type 0 where
  pub place_is : (out-Filling new).place ≡ place
  pub name : (out-Filling new).name ≡ (out-Filling old).name
  pub definitions : AreDefinitionsTidied T (out-Filling old).definitions.items (out-Filling new).definitions.items
  pub type : (out-Filling new).id ≡ (out-Filling old).id
  pub value : IsValueTidied T (out-Filling old).id (out-Filling old).value (out-Filling new).value

-- the filling of a number, for the nil at the place of that number
pub record IsTidiedAt (T : Table) (places : List ℕ) (number : ℕ) (old new : Filling) : Type 0 where
  pub place : ℕ
  pub there : slice_get places number ≡ Some place
  pub tidied : IsFillingTidied T place old new

abbrev pub AreTidied : Table → (places : List ℕ) → (old new : List Filling) → Type 0
AreTidied T places = HoldsOfEach (IsTidiedAt T places)

-- the skeleton of a value of the type in its tidy form, where its nils are filled with these
pub record IsSkeletonTidied (T : Table) (id : TypeId) (skeleton : List ℕ) (fillings : List Filling) (form : Skeleton)
    : Type 0 where
  pub moves : MovesNils T id 1000 skeleton form.bytes.items (places_in fillings) form.places.items
  pub closer : AreCloser (length skeleton) (length form.bytes.items) 0 0 (places_in fillings) form.places.items
  pub are_bytes : AreBytes form.bytes.items
