-- The nils of a value and those of its tidy form. The way to a nil says of each part which of the parts in it is next:
-- an element, a key, the element of an entry, or a field, by its number. Tidying drops none of those that lead to a
-- nil, and no number changes: the same nil is that to which the same way leads.
-- (docs/FORMAT.md, Values; Tidy form.)
use Rattle.std.specs.Prelude.{◌≡◌, ℕ, ◌+◌, ◌-◌, ◌<◌, ◌≤◌, List, [], ◌∷◌, ◌++◌, length, Some, slice_get}
use Rattle.gob_num.specs.Unsigned.{IsUnsigned}
use Rattle.gob_types.specs.declared.basic.Basic.TheVariants as basic
use Rattle.gob_types.specs.declared.id.TypeId.{TypeId}
use Rattle.gob_types.specs.declared.kind.Field.{Field}
use Rattle.gob_types.specs.declared.kind.Kind.{Kind}
use Rattle.gob_types.specs.declared.kind.Kind.TheVariants as kind
use Rattle.gob_types.specs.declared.kind.Shape.{Shape}
use Rattle.gob_types.specs.Table.{Table, shape_of}
use Rattle.gob_value.specs.Spelling.{Spells, SpellsEach, SpellsPairs}
use Rattle.gob_value.specs.Top.{IsStruct}
use Rattle.gob_value.specs.Tree.{Tree, Trees, Pairs, tree_count, pair_count}
use Rattle.gob_tidy.specs.TidiedWhole.{TidiesWhole}

-- which part of a value, by its number among those of its sort
pub data PathStep : Type 0 where
  -- of a slice or an array
  element : ℕ → PathStep
  -- of the entry of a map
  key : ℕ → PathStep
  -- the element of that entry
  entry_element : ℕ → PathStep
  -- of a struct
  field : ℕ → PathStep

-- these bytes stand before the value of the field, where the next field has the one number or a greater one: whole
-- fields, each behind its delta, and the delta of this one
pub data StandBeforeField (T : Table) (types : List Field) : (next number : ℕ) → List ℕ → Type 0 where
  its_delta : {next number : ℕ} {a : List ℕ} → next ≤ number → IsUnsigned (number + 1 - next) a
      → StandBeforeField T types next number a
  field_before : {next other number : ℕ} {e : Field} {v : Tree} {a b c : List ℕ} → next ≤ other
      → slice_get types other ≡ Some e → IsUnsigned (other + 1 - next) a → Spells T e.id v b
      → StandBeforeField T types (other + 1) number c → StandBeforeField T types next number (a ++ (b ++ c))

-- these bytes stand in a part of the kind before this part of it, which is of the type
pub data StandBefore (T : Table) : Kind → PathStep → List ℕ → TypeId → Type 0 where
  slice_element : {e : TypeId} {n at : ℕ} {vs : Trees} {c b : List ℕ} → IsUnsigned n c → SpellsEach T e vs b
      → tree_count vs ≡ at → at < n → StandBefore T (kind.Slice e) (element at) (c ++ b) e
  array_element : {e : TypeId} {n at : ℕ} {vs : Trees} {c b : List ℕ} → IsUnsigned n c → SpellsEach T e vs b
      → tree_count vs ≡ at → at < n → StandBefore T (kind.Array e n) (element at) (c ++ b) e
  map_key : {k e : TypeId} {n at : ℕ} {ps : Pairs} {c b : List ℕ} → IsUnsigned n c → SpellsPairs T k e ps b
      → pair_count ps ≡ at → at < n → StandBefore T (kind.Map k e) (key at) (c ++ b) k
  map_element : {k e : TypeId} {n at : ℕ} {x : Tree} {ps : Pairs} {c b a : List ℕ} → IsUnsigned n c
      → SpellsPairs T k e ps b → pair_count ps ≡ at → at < n → Spells T k x a
      → StandBefore T (kind.Map k e) (entry_element at) (c ++ (b ++ a)) e
  struct_field : {types : List Field} {number : ℕ} {e : Field} {a : List ℕ} → slice_get types number ≡ Some e
      → StandBeforeField T types 0 number a → StandBefore T (kind.Struct types) (field number) a e.id

-- the way leads from the first byte of a value of the type to a nil in it, or to the value itself, past these bytes
pub data LeadsTo (T : Table) : TypeId → List PathStep → List ℕ → Type 0 where
  to_itself : {t : TypeId} {s : Shape} → shape_of T t ≡ Some s → s.kind ≡ kind.Basic basic.Interface → LeadsTo T t [] []
  by_part : {t u : TypeId} {s : Shape} {step : PathStep} {way : List PathStep} {p q : List ℕ} → shape_of T t ≡ Some s
      → StandBefore T s.kind step q u → LeadsTo T u way p → LeadsTo T t (step ∷ way) (q ++ p)

-- so it does from the first byte of the body of an item, where a value that isn't a struct stands behind its tag
pub data LeadsFromTop (T : Table) : TypeId → List PathStep → List ℕ → Type 0 where
  in_struct : {t : TypeId} {s : Shape} {way : List PathStep} {p : List ℕ} → shape_of T t ≡ Some s → IsStruct s.kind
      → LeadsTo T t way p → LeadsFromTop T t way p
  behind_tag : {t : TypeId} {s : Shape} {way : List PathStep} {p : List ℕ} → shape_of T t ≡ Some s → ¬ IsStruct s.kind
      → LeadsTo T t way p → LeadsFromTop T t way (0 ∷ p)

-- the way leads to the nil, a byte 0, that stands behind so many of the bytes
pub record IsNilAt (T : Table) (t : TypeId) (way : List PathStep) (bytes : List ℕ) (place : ℕ) : Type 0 where
  pub front : List ℕ
  pub rest : List ℕ
  pub leads : LeadsFromTop T t way front
  pub whole : bytes ≡ front ++ (0 ∷ rest)
  pub place_is : place ≡ length front

-- the nils of two values of the type stand at these places, and are the same
pub record IsSameNil (T : Table) (t : TypeId) (bytes others : List ℕ) (place other : ℕ) : Type 0 where
  pub way : List PathStep
  pub from : IsNilAt T t way bytes place
  pub to : IsNilAt T t way others other

-- the bytes are a value of the type, and the others its tidy form; the nils of the value at the first places are those
-- of the form at the second ones
pub record MovesNils (T : Table) (t : TypeId) (limit : ℕ) (bytes tidied places moved : List ℕ) : Type 0 where
  pub whole : TidiesWhole T t limit bytes tidied
  pub all : length moved ≡ length places
  pub each : (i p q : ℕ) → slice_get places i ≡ Some p → slice_get moved i ≡ Some q → IsSameNil T t bytes tidied p q
