-- Types and values under other ids: which id of one stream stands for each id of another, and what is the same up to
-- that. A skeleton has no ids, so of a value only its type and the types of what its interfaces hold are renamed.
-- (docs/FORMAT.md, Streams joined.)
use Rattle.std.specs.Prelude.{◌≡◌, ℕ, List, [], ◌∷◌, Option, None, Some}
use Rattle.std.specs.Map.{lookup}
use Rattle.gob_types.specs.declared.id.TypeId.{TypeId}
use Rattle.gob_types.specs.declared.basic.Basic.{Basic}
use Rattle.gob_types.specs.declared.kind.Field.{Field}
use Rattle.gob_types.specs.declared.kind.Marshal.{Marshal}
use Rattle.gob_types.specs.declared.kind.Kind.{Kind}
use Rattle.gob_types.specs.declared.kind.Kind.TheVariants as kind
use Rattle.gob_types.specs.declared.kind.Shape.{Shape}
use Rattle.gob_types.specs.Machine.Entered.{same_id}
use Rattle.gob_types.specs.Table.{Table, shape_of}
use Rattle.gob_value.specs.Tree.{Tree}
use Rattle.gob_filled.specs.Filled.{Definitions, no_definitions, Filled, filled, Fillings, no_filling, filling}
use Rattle.gob_filled.specs.Stream.{FilledItem, defining, putting}

-- the id that stands for each id for which one does
abbrev pub NewId : Type 0
NewId = TypeId → Option TypeId

-- by a list of pairs, the first pair of each id
abbrev pub among : List (TypeId × TypeId) → NewId
among pairs t = lookup (same_id t) pairs

-- by the first one, or else by the other
abbrev pub first_of : Option TypeId → Option TypeId → Option TypeId
first_of None other = other
first_of (Some u) other = Some u

abbrev pub or_else : NewId → NewId → NewId
or_else R S t = first_of (R t) (S t)

-- now this id stands for that one too, for which none stood
pub record LetsStand (id new : TypeId) (old now : NewId) : Type 0 where
  pub stands : now id ≡ Some new
  pub others : (t u : TypeId) → old t ≡ Some u → now t ≡ Some u
  pub only : (t u : TypeId) → now t ≡ Some u → (t.0 ≡ id.0 → ⊥) → old t ≡ Some u

-- what stood stands
pub record Extends (old now : NewId) : Type 0 where
  pub kept : (t u : TypeId) → old t ≡ Some u → now t ≡ Some u

-- ---- shapes
-- the field has that name, and a type that stands for that one
pub record IsRenamedField (R : NewId) (f g : Field) : Type 0 where
  pub name : g.name ≡ f.name
  pub type : R f.id ≡ Some g.id

-- so field by field
pub data AreRenamedFields (R : NewId) : List Field → List Field → Type 0 where
  no_field : AreRenamedFields R [] []
  field_then : {f g : Field} {fs gs : List Field} → IsRenamedField R f g → AreRenamedFields R fs gs
      → AreRenamedFields R (f ∷ fs) (g ∷ gs)

-- the second kind is the first one, where the types that it names are those that stand for the others
pub data IsRenamedKind (R : NewId) : Kind → Kind → Type 0 where
  of_basic : {b : Basic} → IsRenamedKind R (kind.Basic b) (kind.Basic b)
  of_array : {e u : TypeId} {n : ℕ} → R e ≡ Some u → IsRenamedKind R (kind.Array e n) (kind.Array u n)
  of_slice : {e u : TypeId} → R e ≡ Some u → IsRenamedKind R (kind.Slice e) (kind.Slice u)
  of_struct : {fs gs : List Field} → AreRenamedFields R fs gs → IsRenamedKind R (kind.Struct fs) (kind.Struct gs)
  of_map : {k l e u : TypeId} → R k ≡ Some l → R e ≡ Some u → IsRenamedKind R (kind.Map k e) (kind.Map l u)
  of_opaque : {m : Marshal} → IsRenamedKind R (kind.Opaque m) (kind.Opaque m)

pub record IsRenamedShape (R : NewId) (s r : Shape) : Type 0 where
  pub name : r.name ≡ s.name
  pub kind : IsRenamedKind R s.kind r.kind

-- ---- types
-- the second type has in its table the shape of the first one, renamed
pub record StandsFor (R : NewId) (T U : Table) (t u : TypeId) : Type 0 where
  pub shape : Shape
  pub new : Shape
  pub found : shape_of T t ≡ Some shape
  pub stands : shape_of U u ≡ Some new
  pub renamed : IsRenamedShape R shape new

-- each id that stands for another one does so with its shape, and with all that it leads to
pub record IsRenaming (R : NewId) (T U : Table) : Type 0 where
  pub each : (t u : TypeId) → R t ≡ Some u → StandsFor R T U t u

-- ---- values
mutual
  -- the second value is the first one, where other ids stand for the types of what its interfaces hold, and no
  -- definition stands in it
  pub data IsRenamedValue (R : NewId) : Filled → Filled → Type 0 where
    of_value : {v : Tree} {fs gs : Fillings} → AreRenamedFillings R fs gs
        → IsRenamedValue R (filled v fs) (filled v gs)

  pub data AreRenamedFillings (R : NewId) : Fillings → Fillings → Type 0 where
    none_renamed : AreRenamedFillings R no_filling no_filling
    one_renamed : {place : ℕ} {name : List ℕ} {ds : Definitions} {t u : TypeId} {w x : Filled} {fs gs : Fillings}
        → R t ≡ Some u → IsRenamedValue R w x → AreRenamedFillings R fs gs
        → AreRenamedFillings R (filling place name ds t w fs) (filling place name no_definitions u x gs)

-- so the items of two values
pub data IsRenamedItem (R : NewId) : FilledItem → FilledItem → Type 0 where
  of_item : {t u : TypeId} {w x : Filled} → R t ≡ Some u → IsRenamedValue R w x
      → IsRenamedItem R (putting t w) (putting u x)

-- and of the values of two lists, one by one
pub data AreRenamed (R : NewId) : List FilledItem → List FilledItem → Type 0 where
  no_items : AreRenamed R [] []
  items_then : {i j : FilledItem} {is js : List FilledItem} → IsRenamedItem R i j → AreRenamed R is js
      → AreRenamed R (i ∷ is) (j ∷ js)

-- the values of a stream, without the definitions of their types
abbrev pub values_of : List FilledItem → List FilledItem
values_of [] = []
values_of (defining id v ∷ items) = values_of items
values_of (putting t w ∷ items) = putting t w ∷ values_of items
