-- Which values describe a shape: those of wireType of which exactly one field is present, and so on.
-- (Go's encoding/gob documentation, Encoding Details, on wireType; docs/FORMAT.md, Descriptions.)
use Rattle.std.specs.Prelude.{◌≡◌, ◌≢◌, ◌==◌, ℕ, ℤ, pos, negsuc, ◌⊎◌, List, [], ◌∷◌, Option, Some, None, if◌then◌else◌}
use Rattle.gob_types.specs.declared.id.TypeId.{TypeId}
use Rattle.gob_types.specs.declared.kind.Field.{Field}
use Rattle.gob_types.specs.declared.kind.Marshal.{Marshal}
use Rattle.gob_types.specs.declared.kind.Marshal.TheVariants as marshal
use Rattle.gob_types.specs.declared.kind.Kind.{Kind}
use Rattle.gob_types.specs.declared.kind.Kind.TheVariants as kind
use Rattle.gob_types.specs.declared.kind.Shape.{Shape}
use Rattle.gob_types.specs.declared.reason.Reason.{Reason}
use Rattle.gob_types.specs.declared.reason.Reason.TheVariants as reason
use Rattle.gob_types.specs.Definable.{IsReference}
use Rattle.gob_value.specs.Tree.{Tree, Trees, no_tree, tree, Fields, no_field, field}
use Rattle.gob_value.specs.Tree as Value

-- the field of this number, where it is present
abbrev pub present_field : ℕ → Fields → Option Tree
present_field n no_field = None
present_field n (field f v fs) = if f == n then Some v else present_field n fs

-- an absent number is 0, an absent name is empty, and an absent struct or list has nothing in it
abbrev pub number_in : Option Tree → ℤ
number_in (Some (Value.int i)) = i
number_in _ = pos 0

abbrev pub name_in : Option Tree → List ℕ
name_in (Some (Value.text s)) = s
name_in _ = []

abbrev pub fields_in : Option Tree → Fields
fields_in (Some (Value.fields fs)) = fs
fields_in _ = no_field

abbrev pub elements_in : Option Tree → Trees
elements_in (Some (Value.many vs)) = vs
elements_in _ = no_tree

-- a field of a struct, as a description gives it
pub record SaidField : Type 0 where
  pub name : List ℕ
  pub id : ℤ

-- a kind, as a description gives it
pub data SaidKind : Type 0 where
  said_array : (elem len : ℤ) → SaidKind
  said_slice : (elem : ℤ) → SaidKind
  said_struct : List SaidField → SaidKind
  said_map : (key elem : ℤ) → SaidKind
  said_opaque : Marshal → SaidKind

-- what a description says, before it is judged
pub record Said : Type 0 where
  pub name : List ℕ
  pub id : ℤ
  pub kind : SaidKind

-- the elements of structType's Field: each a fieldType, with its Name and its Id
abbrev pub said_fields : Trees → List SaidField
said_fields no_tree = []
said_fields (tree v vs) =
    let fs = fields_in (Some v) in
    record { name = name_in (present_field 0 fs); id = number_in (present_field 1 fs) } ∷ said_fields vs

-- what the one field of wireType that is present says, by its number
abbrev pub said_kind : ℕ → Fields → Option SaidKind
said_kind f fs =
    if f == 0 then Some (said_array (number_in (present_field 1 fs)) (number_in (present_field 2 fs)))
    else (if f == 1 then Some (said_slice (number_in (present_field 1 fs)))
    else (if f == 2 then Some (said_struct (said_fields (elements_in (present_field 1 fs))))
    else (if f == 3 then Some (said_map (number_in (present_field 1 fs)) (number_in (present_field 2 fs)))
    else (if f == 4 then Some (said_opaque marshal.Gob)
    else (if f == 5 then Some (said_opaque marshal.Binary)
    else (if f == 6 then Some (said_opaque marshal.Text)
    else None))))))

-- the CommonType of each kind is its field 0
abbrev pub said_with : Fields → Option SaidKind → Option Said
said_with common None = None
said_with common (Some k) = Some (record {
  name = name_in (present_field 0 common);
  id = number_in (present_field 1 common);
  kind =
      k;
})

-- what a value of wireType says, where exactly one of its fields is present
abbrev pub said : Tree → Option Said
said (Value.fields (field f v no_field)) = said_with (fields_in (present_field 0 (fields_in (Some v))))
    (said_kind f (fields_in (Some v)))
said _ = None

-- the number refers to this type
pub record RefersTo (i : ℤ) (t : TypeId) : Type 0 where
  pub number : i ≡ pos t.0
  pub reference : IsReference t

pub data GivesFields : List SaidField → List Field → Type 0 where
  no_more : GivesFields [] []
  and_field : {f : SaidField} {g : Field} {fs : List SaidField} {gs : List Field} → f.name ≡ g.name → RefersTo f.id g.id
      → GivesFields fs gs → GivesFields (f ∷ fs) (g ∷ gs)

-- what is said is this kind
pub data GivesKind : SaidKind → Kind → Type 0 where
  gives_array : {e l : ℤ} {elem : TypeId} {n : ℕ} → RefersTo e elem → l ≡ pos n
      → GivesKind (said_array e l) (kind.Array elem n)
  gives_slice : {e : ℤ} {elem : TypeId} → RefersTo e elem → GivesKind (said_slice e) (kind.Slice elem)
  gives_struct : {fs : List SaidField} {gs : List Field} → GivesFields fs gs
      → GivesKind (said_struct fs) (kind.Struct gs)
  gives_map : {k e : ℤ} {key elem : TypeId} → RefersTo k key → RefersTo e elem
      → GivesKind (said_map k e) (kind.Map key elem)
  gives_opaque : {m : Marshal} → GivesKind (said_opaque m) (kind.Opaque m)

-- a value of wireType describes the shape, for the type of this id
pub record Describes (id : TypeId) (v : Tree) (s : Shape) : Type 0 where
  pub what : Said
  pub says : said v ≡ Some what
  pub same_id : what.id ≡ pos id.0
  pub name : s.name ≡ what.name
  pub kind : GivesKind what.kind s.kind

-- the number refers to no type
abbrev pub IsBadReference : ℤ → Type 0
IsBadReference i = (t : TypeId) → ¬ RefersTo i t

-- one of the fields refers to no type
pub data HasBadField : List SaidField → Type 0 where
  this_field : {f : SaidField} {fs : List SaidField} → IsBadReference f.id → HasBadField (f ∷ fs)
  later_field : {f : SaidField} {fs : List SaidField} → HasBadField fs → HasBadField (f ∷ fs)

abbrev pub HasBadReference : SaidKind → Type 0
HasBadReference (said_array e l) = IsBadReference e
HasBadReference (said_slice e) = IsBadReference e
HasBadReference (said_struct fs) = HasBadField fs
HasBadReference (said_map k e) = IsBadReference k ⊎ IsBadReference e
HasBadReference (said_opaque m) = ⊥

abbrev pub HasBadLength : SaidKind → Type 0
HasBadLength (said_array e (negsuc n)) = Unit {0}
HasBadLength _ = ⊥

-- why a value of wireType describes no shape: the first of the four demands that it doesn't meet
pub data Misdescribes (id : TypeId) (v : Tree) : Reason → Type 0 where
  kind_count : said v ≡ None → Misdescribes id v reason.KindCount
  wrong_id : {what : Said} → said v ≡ Some what → what.id ≢ pos id.0 → Misdescribes id v reason.WrongId
  bad_reference : {what : Said} → said v ≡ Some what → what.id ≡ pos id.0 → HasBadReference what.kind
      → Misdescribes id v reason.BadReference
  bad_length : {what : Said} → said v ≡ Some what → what.id ≡ pos id.0 → ¬ HasBadReference what.kind
      → HasBadLength what.kind → Misdescribes id v reason.BadLength
