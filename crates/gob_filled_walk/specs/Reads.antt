-- What a walk reads of a piece, by what it tells: a value of the profile that defines nothing, no deeper than a limit,
-- and the rest of the piece behind it. An interface holds nothing, or a name, the number of a type that is ready, a
-- count, and a value of the type that has so many bytes.
-- (docs/FORMAT.md, Values; Fillings and segments.)
use Rattle.std.specs.Prelude.{◌≡◌, ℕ, pos, ◌+◌, ◌-◌, ◌<◌, ◌≤◌, Bool, true, false, List, [], ◌∷◌, ◌++◌, length, Some}
use Rattle.std.specs.Prelude.{slice_get}
use Rattle.gob_num.specs.Unsigned.{IsUnsigned}
use Rattle.gob_num.specs.Signed.{IsSigned}
use Rattle.gob_types.specs.declared.id.TypeId.{TypeId}
use Rattle.gob_types.specs.declared.basic.Basic.TheVariants as basic
use Rattle.gob_types.specs.declared.kind.Field.{Field}
use Rattle.gob_types.specs.declared.kind.Kind.TheVariants as kind
use Rattle.gob_types.specs.declared.kind.Shape.{Shape}
use Rattle.gob_types.specs.Table.{Table, shape_of}
use Rattle.gob_value.specs.Top.{IsStruct}
use Rattle.gob_value.specs.Tree.{Tree, Trees, tree_count}
use Rattle.gob_value.specs.Machine.Begins.{BeginsThisNumber}
use Rattle.gob_stream.specs.Body.{MayPut}
use Rattle.gob_go.specs.Machine.WholeFilled.{IsOfKind}
use Rattle.gob_walk.specs.Event.{value_told, elements_told, list_begins, element, list_ends, map_begins, entry, between}
use Rattle.gob_walk.specs.Event.{entry_ends, map_ends, struct_begins, present, field_ends, struct_ends}
use Rattle.gob_walk.specs.Standing.{HoldsValue, BeginsElements}
use Rattle.gob_filled_walk.specs.HeldEvent.{HeldEvent, told, held_begins, held_ends, all_told}

-- the piece begins with what stands before a value of so many bytes in an interface
pub record BeginsHeld (T : Table) (name : List ℕ) (held : TypeId) (size : ℕ) (piece inner : List ℕ) : Type 0 where
  pub name_count : List ℕ
  pub number : List ℕ
  pub count : List ℕ
  pub some : 0 < length name
  pub named : IsUnsigned (length name) name_count
  pub may : MayPut T held
  pub typed : IsSigned (pos held.0) number
  pub counted : IsUnsigned size count
  pub whole : piece ≡ (name_count ++ (name ++ (number ++ count))) ++ inner

mutual
  -- a value of this type
  pub data Reads (T : Table) : TypeId → (limit : ℕ) → List HeldEvent → (piece rest : List ℕ) → Type 0 where
    -- in which no interface holds another
    reads_unfilled : {u : TypeId} {limit : ℕ} {v : Tree} {piece rest : List ℕ} → HoldsValue T u limit v piece rest
        → Reads T u limit (all_told (value_told T u v)) piece rest
    reads_slice : {u e : TypeId} {limit count : ℕ} {es : List HeldEvent} {piece behind rest : List ℕ}
        → IsOfKind T u (kind.Slice e) → 0 < limit → BeginsThisNumber count piece behind
        → ReadsEach T e (limit - 1) count false es behind rest → Reads T u limit (told list_begins ∷ es) piece rest
    reads_array : {u e : TypeId} {limit count : ℕ} {es : List HeldEvent} {piece behind rest : List ℕ}
        → IsOfKind T u (kind.Array e count) → 0 < limit → BeginsThisNumber count piece behind
        → ReadsEach T e (limit - 1) count false es behind rest → Reads T u limit (told list_begins ∷ es) piece rest
    reads_map : {u k e : TypeId} {limit count : ℕ} {es : List HeldEvent} {piece behind rest : List ℕ}
        → IsOfKind T u (kind.Map k e) → 0 < limit → BeginsThisNumber count piece behind
        → ReadsEntries T k e (limit - 1) count false es behind rest
        → Reads T u limit (told (map_begins k) ∷ es) piece rest
    reads_struct : {u : TypeId} {types : List Field} {limit : ℕ} {es : List HeldEvent} {piece rest : List ℕ}
        → IsOfKind T u (kind.Struct types) → 0 < limit → ReadsFields T types 0 (limit - 1) es piece rest
        → Reads T u limit (told struct_begins ∷ es) piece rest
    -- what an interface holds lies one deeper than the interface
    reads_held : {u held : TypeId} {limit size : ℕ} {es : List HeldEvent} {name piece inner rest : List ℕ}
        → IsOfKind T u (kind.Basic basic.Interface) → BeginsHeld T name held size piece inner
        → ReadsTop T held limit es inner rest → length inner ≡ size + length rest
        → Reads T u (limit + 1) (held_begins name held ∷ (es ++ held_ends ∷ [])) piece rest

  -- a value of the type behind its tag, which a struct doesn't have
  pub data ReadsTop (T : Table) : TypeId → (limit : ℕ) → List HeldEvent → (piece rest : List ℕ) → Type 0 where
    reads_at_once : {u : TypeId} {s : Shape} {limit : ℕ} {es : List HeldEvent} {piece rest : List ℕ}
        → shape_of T u ≡ Some s → IsStruct s.kind → Reads T u limit es piece rest → ReadsTop T u limit es piece rest
    reads_tagged : {u : TypeId} {s : Shape} {limit : ℕ} {es : List HeldEvent} {piece rest : List ℕ}
        → shape_of T u ≡ Some s → ¬ IsStruct s.kind → Reads T u limit es piece rest
        → ReadsTop T u limit es (0 ∷ piece) rest

  -- so many elements
  pub data ReadsEach (T : Table) : TypeId → (limit count : ℕ) → (later : Bool) → List HeldEvent → (piece rest : List ℕ)
      → Type 0 where
    no_more : {e : TypeId} {limit : ℕ} {later : Bool} {piece : List ℕ}
        → ReadsEach T e limit 0 later (told list_ends ∷ []) piece piece
    and_element : {e : TypeId} {limit count : ℕ} {later : Bool} {es fs : List HeldEvent} {piece mid rest : List ℕ}
        → Reads T e limit es piece mid → ReadsEach T e limit count true fs mid rest
        → ReadsEach T e limit (count + 1) later (told (element later) ∷ (es ++ fs)) piece rest
    -- in which no interface holds another
    unfilled_elements : {e : TypeId} {limit count : ℕ} {later : Bool} {vs : Trees} {piece rest : List ℕ}
        → BeginsElements T e limit vs piece rest → tree_count vs ≡ count
        → ReadsEach T e limit count later (all_told (elements_told later T e vs)) piece rest

  -- so many keys and their elements
  pub data ReadsEntries (T : Table) : TypeId → TypeId → (limit count : ℕ) → (later : Bool) → List HeldEvent
      → (piece rest : List ℕ) → Type 0 where
    no_entry_more : {k e : TypeId} {limit : ℕ} {later : Bool} {piece : List ℕ}
        → ReadsEntries T k e limit 0 later (told (map_ends k) ∷ []) piece piece
    and_entry : {k e : TypeId} {limit count : ℕ} {later : Bool} {ks es fs : List HeldEvent}
        {piece behind mid rest : List ℕ} → Reads T k limit ks piece behind → Reads T e limit es behind mid
        → ReadsEntries T k e limit count true fs mid rest → ReadsEntries T k e limit (count + 1) later
        (told (entry k later) ∷ ((ks ++ told (between k) ∷ (es ++ told (entry_ends k) ∷ [])) ++ fs)) piece rest

  -- the fields that are present, of which the next has this number or a greater one
  pub data ReadsFields (T : Table) : List Field → (next limit : ℕ) → List HeldEvent → (piece rest : List ℕ) → Type 0
    where
      fields_stop : {types : List Field} {next limit : ℕ} {piece rest : List ℕ} → BeginsThisNumber 0 piece rest
          → ReadsFields T types next limit (told (struct_ends types next) ∷ []) piece rest
      and_field : {types : List Field} {next f limit delta : ℕ} {e : Field} {es fs : List HeldEvent}
          {piece behind mid rest : List ℕ} → 0 < delta → f + 1 ≡ next + delta → slice_get types f ≡ Some e
          → BeginsThisNumber delta piece behind → Reads T e.id limit es behind mid
          → ReadsFields T types (f + 1) limit fs mid rest
          → ReadsFields T types next limit ((told (present types next f) ∷ (es ++ told field_ends ∷ [])) ++ fs) piece
          rest

-- a list of so many elements, a map of so many entries, and a struct of these fields, each behind its count
abbrev pub ReadsList : Table → TypeId → (limit count : ℕ) → List HeldEvent → (piece rest : List ℕ) → Type 0
ReadsList T e limit count es piece rest =
    (fs : List HeldEvent) × (es ≡ told list_begins ∷ fs) × ReadsEach T e limit count false fs piece rest

abbrev pub ReadsMap : Table → TypeId → TypeId → (limit count : ℕ) → List HeldEvent → (piece rest : List ℕ) → Type 0
ReadsMap T k e limit count es piece rest =
    (fs : List HeldEvent) × (es ≡ told (map_begins k) ∷ fs) × ReadsEntries T k e limit count false fs piece rest

abbrev pub ReadsStruct : Table → List Field → (limit : ℕ) → List HeldEvent → (piece rest : List ℕ) → Type 0
ReadsStruct T types limit es piece rest =
    (fs : List HeldEvent) × (es ≡ told struct_begins ∷ fs) × ReadsFields T types 0 limit fs piece rest
