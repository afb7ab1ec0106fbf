-- What gob makes of the types of Go: what stands behind names and pointers. (The Go Programming Language Specification,
-- Underlying types and Type declarations; Go's encoding/gob documentation, Types and Values, and its type.go: a pointer
-- is what it points to, a slice of bytes is a byte string, and a type that encodes itself has no parts.)
use Rattle.std.specs.Prelude.{◌≡◌, ℕ, List, Bool, true, false, Option, Some, None, slice_get}
use Rattle.std.specs.Borrow.{Bor}
use Rattle.gob_types.specs.declared.id.TypeId.{TypeId}
use Rattle.gob_types.specs.declared.kind.Marshal.{Marshal}
use Rattle.gob_types.specs.Base.{id}
use Rattle.gob_go_source.specs.declared.declarations.GoSource.{GoSource}
use Rattle.gob_go_source.specs.declared.go_type.Declaration.{Declaration}
use Rattle.gob_go_source.specs.declared.go_type.GoType.{GoType}
use Rattle.gob_go_source.specs.declared.go_type.GoType.TheVariants as go
use Rattle.gob_go_types.specs.declared.library.Known.TheVariants as known
use Rattle.gob_go_types.specs.declared.sight.Sight.{Sight}
use Rattle.gob_go_types.specs.declared.sight.Sight.TheVariants as sight
use Rattle.gob_go_types.specs.declared.sight.Step.{Step}
use Rattle.gob_go_types.specs.declared.sight.Step.TheVariants as step
use Rattle.gob_go_types.specs.Code.{declared_at}
use Rattle.gob_go_types.specs.Library.{basic_named, is_byte, known_of}

-- the type at the second place is behind the declared names at the first, and is none itself
pub data Underlies (s : GoSource) : ℕ → ℕ → Type 0 where
  itself : {n : ℕ} → declared_at s n ≡ None → Underlies s n n
  behind : {n i end : ℕ} {d : Declaration} → declared_at s n ≡ Some i → slice_get s.declarations.items i ≡ Some d
      → Underlies s d.of end → Underlies s n end

-- a type with parts at this place, whose name is that of this declaration
abbrev pub parts_sight : Option ℕ → ℕ → Sight
parts_sight None n = sight.Parts n
parts_sight (Some i) n = sight.Own i n

abbrev pub is_byte_type : GoType → Bool
is_byte_type (go.Name w) = is_byte w.now
is_byte_type _ = false

-- a look at a name that isn't declared ends at the basic type that Go knows by it
pub data EndsName (w : List ℕ) (e : Step) : Type 0 where
  a_basic_name : {t : TypeId} → basic_named w ≡ Some t → e ≡ step.At (sight.Basic t) → EndsName w e

-- one at a type of a package ends at what is known of it. A declared type hasn't its methods
pub data EndsLibrary (owner : Option ℕ) (p : List ℕ) (w : Bor (List ℕ)) (e : Step) : Type 0 where
  a_whole_number : known_of p w.now ≡ Some known.Whole → e ≡ step.At (sight.Basic (id 2)) → EndsLibrary owner p w e
  encodes_itself : {m : Marshal} → known_of p w.now ≡ Some (known.Opaque m) → owner ≡ None
      → e ≡ step.At (sight.Opaque w m) → EndsLibrary owner p w e

-- one at a slice ends there, or at a byte string
pub data EndsSlice (s : GoSource) (owner : Option ℕ) (elem n : ℕ) (e : Step) : Type 0 where
  of_bytes : {end : ℕ} {t : GoType} → Underlies s elem end → slice_get s.types.items end ≡ Some t
      → is_byte_type t ≡ true → e ≡ step.At (sight.Basic (id 5)) → EndsSlice s owner elem n e
  of_others : {end : ℕ} {t : GoType} → Underlies s elem end → slice_get s.types.items end ≡ Some t
      → is_byte_type t ≡ false → e ≡ step.At (parts_sight owner n) → EndsSlice s owner elem n e

-- where a look at a type leads that is no declared name; it is that of a declaration, or has no name
pub data Ends (s : GoSource) (owner : Option ℕ) (n : ℕ) (e : Step) : Type 0 where
  a_pointer : {to : ℕ} → slice_get s.types.items n ≡ Some (go.Pointer to) → e ≡ step.On to → Ends s owner n e
  a_name : {w : Bor (List ℕ)} → slice_get s.types.items n ≡ Some (go.Name w) → EndsName w.now e → Ends s owner n e
  of_library : {p w : Bor (List ℕ)} → slice_get s.types.items n ≡ Some (go.Qualified p w)
      → EndsLibrary owner p.now w e → Ends s owner n e
  a_slice : {elem : ℕ} → slice_get s.types.items n ≡ Some (go.Slice elem) → EndsSlice s owner elem n e
      → Ends s owner n e
  an_array : {elem len : ℕ} → slice_get s.types.items n ≡ Some (go.Array len elem)
      → e ≡ step.At (parts_sight owner n) → Ends s owner n e
  a_map : {key elem : ℕ} → slice_get s.types.items n ≡ Some (go.Map key elem)
      → e ≡ step.At (parts_sight owner n) → Ends s owner n e
  a_struct : {lines : _} → slice_get s.types.items n ≡ Some (go.Struct lines)
      → e ≡ step.At (parts_sight owner n) → Ends s owner n e
  an_interface : slice_get s.types.items n ≡ Some go.Interface → e ≡ step.At (sight.Basic (id 8)) → Ends s owner n e
  not_sent : slice_get s.types.items n ≡ Some go.Unsent → e ≡ step.At sight.Unsent → Ends s owner n e

-- where a look at the type that is declared at a place leads: a type that encodes itself ends it, another name leads
-- to what it stands for, and a type of its own ends at the type that is behind its declaration
pub data LeadsFrom (s : GoSource) (i : ℕ) (e : Step) : Type 0 where
  declared_opaque : {d : Declaration} {m : Marshal} → slice_get s.declarations.items i ≡ Some d
      → d.note.marshal ≡ Some m → e ≡ step.At (sight.Opaque d.name m) → LeadsFrom s i e
  another_name : {d : Declaration} → slice_get s.declarations.items i ≡ Some d → d.note.marshal ≡ None
      → d.is_alias ≡ true → e ≡ step.On d.of → LeadsFrom s i e
  of_its_own : {d : Declaration} {end : ℕ} → slice_get s.declarations.items i ≡ Some d
      → d.note.marshal ≡ None → d.is_alias ≡ false → Underlies s d.of end → Ends s (Some i) end e → LeadsFrom s i e

-- where a look at the type at a place leads
pub data Leads (s : GoSource) (n : ℕ) (e : Step) : Type 0 where
  by_declaration : {i : ℕ} → declared_at s n ≡ Some i → LeadsFrom s i e → Leads s n e
  by_itself : declared_at s n ≡ None → Ends s None n e → Leads s n e

-- what gob makes of the type at a place
pub data Seen (s : GoSource) (v : Sight) : ℕ → Type 0 where
  seen : {n : ℕ} → Leads s n (step.At v) → Seen s v n
  seen_on : {n m : ℕ} → Leads s n (step.On m) → Seen s v m → Seen s v n

-- what it makes of the type that is declared at a place
pub data SeenFrom (s : GoSource) (i : ℕ) (v : Sight) : Type 0 where
  seen_there : LeadsFrom s i (step.At v) → SeenFrom s i v
  seen_behind : {m : ℕ} → LeadsFrom s i (step.On m) → Seen s v m → SeenFrom s i v
