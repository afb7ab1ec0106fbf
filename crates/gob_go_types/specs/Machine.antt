-- What the code keeps while it makes definitions.
use Rattle.std.specs.Prelude.{◌≡◌, ℕ, ◌⊎◌, List, [], ◌∷◌, ◌++◌, Bool, true, false, if◌then◌else◌, Option}
use Rattle.std.specs.Prelude.{Some}
use Rattle.std.specs.Prelude.{None, map, nat_eq, slice_get, slice_set, ◌&&◌, ◌==◌}
use Rattle.std.specs.Borrow.{Bor}
use Rattle.std.specs.HashSet.{contains}
use Rattle.std.specs.Map.{lookup}
use Rattle.gob_types.specs.declared.id.TypeId.{TypeId}
use Rattle.gob_types.specs.declared.kind.Field.{Field}
use Rattle.gob_types.specs.declared.kind.Kind.{Kind}
use Rattle.gob_types.specs.declared.kind.Kind.TheVariants as kind
use Rattle.gob_types.specs.declared.kind.Marshal.TheVariants as marshal
use Rattle.gob_types.specs.Definable.{IsOwnId}
use Rattle.gob_go_source.specs.declared.declarations.GoSource.{GoSource}
use Rattle.gob_go_source.specs.declared.go_type.Declaration.{Declaration}
use Rattle.gob_go_source.specs.declared.go_type.GoField.{GoField}
use Rattle.gob_go_types.specs.declared.free.FreeIds.{FreeIds}
use Rattle.gob_go_types.specs.declared.made.Made.{Made}
use Rattle.gob_go_types.specs.declared.made.MadeKind.{MadeKind}
use Rattle.gob_go_types.specs.declared.made.MadeKind.TheVariants as made
use Rattle.gob_go_types.specs.declared.numbers.Defined.{Defined}
use Rattle.gob_go_types.specs.declared.numbers.Form.{Form}
use Rattle.gob_go_types.specs.declared.numbers.Form.TheVariants as form
use Rattle.gob_go_types.specs.declared.numbers.Numbers.{Numbers}
use Rattle.gob_go_types.specs.declared.numbers.Slot.{Slot}
use Rattle.gob_go_types.specs.declared.sight.Sight.{Sight}
use Rattle.gob_go_types.specs.declared.sight.Sight.TheVariants as sight
use Rattle.gob_go_types.specs.declared.sight.Step.TheVariants as step
use Rattle.gob_go_types.specs.Names.{same_name}
use Rattle.gob_go_types.specs.Sight.{LeadsFrom}
use Rattle.gob_go_types.specs.Types.{AreOwnIds, Has, HasFields, HasId, HasKind, IsNumbered, IsOf, LineHas, defined}

-- ---- ids

abbrev pub is_given : FreeIds → ℕ → Bool
is_given f n = contains nat_eq f.given n

-- the id is new, one that a definition may give, and given in the end
pub record GivesId (old new : FreeIds) (t : TypeId) : Type 0 where
  pub own : IsOwnId t
  pub fresh : is_given old t.0 ≡ false
  pub given : is_given new t.0 ≡ true
  pub stays : (n : ℕ) → is_given old n ≡ true → is_given new n ≡ true

-- ---- types that are told apart by their shapes

abbrev pub kind_made : MadeKind → Kind
kind_made made.Gob = kind.Opaque marshal.Gob
kind_made made.Binary = kind.Opaque marshal.Binary
kind_made made.Text = kind.Opaque marshal.Text
kind_made (made.Array t n) = kind.Array t n
kind_made (made.Slice t) = kind.Slice t
kind_made (made.Map t u) = kind.Map t u

-- ---- definitions

abbrev pub is_open : Form → Bool
is_open (form.Open n) = true
is_open (form.Done k) = false

abbrev pub open_place : Form → Option ℕ
open_place (form.Open n) = Some n
open_place (form.Done k) = None

-- what is defined of these
abbrev pub finished_by : TypeId → List ℕ → Form → List Defined
finished_by t name (form.Open n) = []
finished_by t name (form.Done k) = defined t name k ∷ []

abbrev pub finished_one : Slot → List Defined
finished_one x = finished_by x.id x.name.now x.form

abbrev pub finished : List Slot → List Defined
finished [] = []
finished (x ∷ xs) = finished_one x ++ finished xs

-- all are done
abbrev pub AllDone : List Slot → Type 0
AllDone [] = Unit {0}
AllDone (x ∷ xs) = (is_open x.form ≡ false) × AllDone xs

abbrev pub ids_of : List Slot → List TypeId
ids_of xs = map (λ x. x.id) xs

-- their ids are given, each once
pub record Numbered (xs : List Slot) (f : FreeIds) : Type 0 where
  pub ids : AreOwnIds (ids_of xs)
  pub given : (t : TypeId) → Has (ids_of xs) t → is_given f t.0 ≡ true

abbrev pub made_definition : Made → TypeId → Defined
made_definition m t = defined t m.name.now (kind_made m.kind)

abbrev pub same_id : TypeId → TypeId → Bool
same_id t u = t.0 == u.0

abbrev pub same_kind : MadeKind → MadeKind → Bool
same_kind made.Gob made.Gob = true
same_kind made.Binary made.Binary = true
same_kind made.Text made.Text = true
same_kind (made.Array t n) (made.Array u m) = same_id t u && (n == m)
same_kind (made.Slice t) (made.Slice u) = same_id t u
same_kind (made.Map t u) (made.Map v w) = same_id t v && same_id u w
same_kind _ _ = false

abbrev pub same_made : Made → Made → Bool
same_made x y = same_name x.name y.name && same_kind x.kind y.kind

-- the declared type has this id in the new map, and any other the id that it had
pub record PutsId (i : ℕ) (t : TypeId) (old new : List (ℕ × TypeId)) : Type 0 where
  pub each : (j : ℕ) → lookup (nat_eq j) new ≡ (if nat_eq i j then Some t else lookup (nat_eq j) old)

-- so of a type that is told apart by its shape
pub record PutsMade (m : Made) (t : TypeId) (old new : List (Made × TypeId)) : Type 0 where
  pub each : (k : Made) → lookup (same_made k) new ≡ (if same_made m k then Some t else lookup (same_made k) old)

-- what the map has of types that are told apart by their shapes is defined
pub record KnowsMade (es : List (Made × TypeId)) (T : List Defined) : Type 0 where
  pub each : (m : Made) (t : TypeId) → lookup (same_made m) es ≡ Some t → Has T (made_definition m t)

-- a definition of an id and a name, which waits for its kind
abbrev pub waiting : TypeId → Bor (List ℕ) → ℕ → Slot
waiting t name n = record { id = t; name = name; form = form.Open n }

-- what is known of a declared type of an id: it waits for its kind, or is defined
pub record OwnsSlot (s : GoSource) (ns : Numbers) (i : ℕ) (t : TypeId) : Type 0 where
  pub declaration : Declaration
  pub parts : ℕ
  pub declared : slice_get s.declarations.items i ≡ Some declaration
  pub leads : LeadsFrom s i (step.At (sight.Own i parts))
  pub stands : Has ns.slots.items (waiting t declaration.name parts)
      ⊎ ((k : Kind) × HasKind s ns.ids.entries (finished ns.slots.items) parts k
      × Has (finished ns.slots.items) (defined t declaration.name.now k))

-- what is kept says of the source what it is to
pub record Sound (s : GoSource) (ns : Numbers) : Type 0 where
  pub numbered : Numbered ns.slots.items ns.free
  pub made : KnowsMade ns.made.entries (finished ns.slots.items)
  pub owned : (i : ℕ) (t : TypeId) → IsNumbered ns.ids.entries i t → OwnsSlot s ns i t

-- ids stay, and so do definitions
pub record Keeps (old new : Numbers) : Type 0 where
  pub ids : (i : ℕ) (t : TypeId) → IsNumbered old.ids.entries i t → IsNumbered new.ids.entries i t
  pub definitions : (d : Defined) → Has (finished old.slots.items) d → Has (finished new.slots.items) d

-- ids stay, and more definitions stand behind the others
pub record Goes (old new : Numbers) : Type 0 where
  pub ids : (i : ℕ) (t : TypeId) → IsNumbered old.ids.entries i t → IsNumbered new.ids.entries i t
  pub more : List Slot
  pub slots : new.slots.items ≡ old.slots.items ++ more

-- a sight of a declared type's own parts is one at that declaration
abbrev pub IsLed : GoSource → Sight → Type 0
IsLed s (sight.Own i n) = LeadsFrom s i (step.At (sight.Own i n))
IsLed s _ = Unit {0}

abbrev pub IsOfIn : GoSource → Numbers → Sight → TypeId → Type 0
IsOfIn s ns v t = IsOf s ns.ids.entries (finished ns.slots.items) v t

abbrev pub HasIdIn : GoSource → Numbers → ℕ → TypeId → Type 0
HasIdIn s ns n t = HasId s ns.ids.entries (finished ns.slots.items) n t

abbrev pub HasKindIn : GoSource → Numbers → ℕ → Kind → Type 0
HasKindIn s ns n k = HasKind s ns.ids.entries (finished ns.slots.items) n k

abbrev pub HasFieldsIn : GoSource → Numbers → List GoField → List Field → Type 0
HasFieldsIn s ns ls fs = HasFields s ns.ids.entries (finished ns.slots.items) ls fs

-- the fields of a line are put behind others
pub record AddsLine (s : GoSource) (ns : Numbers) (l : GoField) (old new : List Field) : Type 0 where
  pub more : List Field
  pub is : new ≡ old ++ more
  pub has : LineHas s ns.ids.entries (finished ns.slots.items) l more

-- the place of the parts of the definition at a place, if its kind isn't known
abbrev pub slot_open : Option Slot → Option ℕ
slot_open None = None
slot_open (Some x) = open_place x.form

abbrev pub open_at : List Slot → ℕ → Option ℕ
open_at xs n = slot_open (slice_get xs n)

-- the definition at a place has a kind in the new list
pub record Closes (old new : List Slot) (n : ℕ) (k : Kind) : Type 0 where
  pub slot : Slot
  pub was : slice_get old n ≡ Some slot
  pub is : new ≡ slice_set old n (record slot { form = form.Done k })
