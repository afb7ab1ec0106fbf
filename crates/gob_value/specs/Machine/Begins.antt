-- What the bytes of a piece begin with, as the walk over whole values finds it: a value, or so many parts of one, no
-- deeper than a limit, and the rest of the piece behind it.
use Rattle.std.specs.Prelude.{◌≡◌, ℕ, ◌≤◌, Bool, IsTrue, List, ◌++◌, length, drop, Some}
use Rattle.gob_num.specs.Unsigned.{IsUnsigned}
use Rattle.gob_types.specs.declared.id.TypeId.{TypeId}
use Rattle.gob_types.specs.declared.basic.Basic.TheVariants as basic
use Rattle.gob_types.specs.declared.kind.Field.{Field}
use Rattle.gob_types.specs.declared.kind.Kind.{Kind}
use Rattle.gob_types.specs.declared.kind.Kind.TheVariants as kind
use Rattle.gob_types.specs.declared.kind.Shape.{Shape}
use Rattle.gob_types.specs.Table.{Table, shape_of}
use Rattle.gob_value.specs.Tree.{Tree, Trees, Pairs, Fields, depth, trees_depth, pairs_depth, fields_depth}
use Rattle.gob_value.specs.Tree.{tree_count, pair_count}
use Rattle.gob_value.specs.Spelling.{SpellsAs, SpellsEach, SpellsPairs, SpellsFields}
use Rattle.gob_value.specs.Tidy.{Tidies, TidiesAs, TidiesEach, TidiesPairs, TidiesFields, IsDropped}
use Rattle.gob_value.specs.Top.{SpellsTop}

-- the bytes are a value of the type behind its tag, its own tidy form where that is asked for
pub record IsWholeSo (T : Table) (tidy : Bool) (t : TypeId) (limit : ℕ) (bytes : List ℕ) : Type 0 where
  pub value : Tree
  pub spelled : SpellsTop T t value bytes
  pub within : depth value ≤ limit
  pub tidied : IsTrue tidy → Tidies T t value value

-- each value of the kind is spelled by one number, and each number spells one
abbrev pub HoldsNumbers : Kind → Type 0
HoldsNumbers (kind.Basic basic.Int) = Unit {0}
HoldsNumbers (kind.Basic basic.Uint) = Unit {0}
HoldsNumbers (kind.Basic basic.Float) = Unit {0}
HoldsNumbers _ = ⊥

-- the piece begins with a value of the kind, its own tidy form where that is asked for, and this is the rest
pub record BeginsKind (T : Table) (tidy : Bool) (k : Kind) (limit : ℕ) (piece rest : List ℕ) : Type 0 where
  pub value : Tree
  pub bytes : List ℕ
  pub spelled : SpellsAs T k value bytes
  pub within : depth value ≤ limit
  pub tidied : IsTrue tidy → TidiesAs T k value value
  pub whole : piece ≡ bytes ++ rest

-- the piece begins with a value of a type of the kind, behind its tag where it isn't a struct
pub record BeginsTop (T : Table) (tidy : Bool) (k : Kind) (limit : ℕ) (piece rest : List ℕ) : Type 0 where
  pub value : Tree
  pub bytes : List ℕ
  pub spelled : (t : TypeId) (s : Shape) → shape_of T t ≡ Some s → s.kind ≡ k → SpellsTop T t value bytes
  pub within : depth value ≤ limit
  pub tidied : IsTrue tidy → TidiesAs T k value value
  pub whole : piece ≡ bytes ++ rest

-- the piece begins with so many elements
pub record BeginsEach (T : Table) (tidy : Bool) (e : TypeId) (limit count : ℕ) (piece rest : List ℕ) : Type 0 where
  pub values : Trees
  pub bytes : List ℕ
  pub spelled : SpellsEach T e values bytes
  pub within : trees_depth values ≤ limit
  pub tidied : IsTrue tidy → TidiesEach T e values values
  pub counted : tree_count values ≡ count
  pub whole : piece ≡ bytes ++ rest

-- the piece begins with so many keys and their elements
pub record BeginsPairs (T : Table) (tidy : Bool) (k e : TypeId) (limit count : ℕ) (piece rest : List ℕ) : Type 0 where
  pub pairs : Pairs
  pub bytes : List ℕ
  pub spelled : SpellsPairs T k e pairs bytes
  pub within : pairs_depth pairs ≤ limit
  pub tidied : IsTrue tidy → TidiesPairs T k e pairs pairs
  pub counted : pair_count pairs ≡ count
  pub whole : piece ≡ bytes ++ rest

-- the piece begins with the present fields, of which the next has this number or a greater one
pub record BeginsFields (T : Table) (tidy : Bool) (types : List Field) (next limit : ℕ) (piece rest : List ℕ) : Type
    0 where
  pub fields : Fields
  pub bytes : List ℕ
  pub spelled : SpellsFields T types next fields bytes
  pub within : fields_depth fields ≤ limit
  pub tidied : IsTrue tidy → TidiesFields T types fields fields
  pub whole : piece ≡ bytes ++ rest

-- a struct keeps whatever value of the kind the piece begins with
abbrev pub BeginsKept : Kind → List ℕ → Type 0
BeginsKept k piece = (T : Table) (v : Tree) (bytes rest : List ℕ) → SpellsAs T k v bytes → piece ≡ bytes ++ rest
    → ¬ IsDropped k v

-- the piece begins with the value of a field of the type, which a tidy struct keeps where one is asked for
pub record BeginsField (T : Table) (tidy : Bool) (t : TypeId) (limit : ℕ) (piece rest : List ℕ) : Type 0 where
  pub shape : Shape
  pub known : shape_of T t ≡ Some shape
  pub part : BeginsKind T tidy shape.kind limit piece rest
  pub kept : IsTrue tidy → BeginsKept shape.kind piece

-- the piece begins with this number
pub record BeginsThisNumber (n : ℕ) (piece rest : List ℕ) : Type 0 where
  pub bytes : List ℕ
  pub spelled : IsUnsigned n bytes
  pub whole : piece ≡ bytes ++ rest

-- the relation holds of what stands in the body from one place on and what stands behind the other
pub record HoldsBetween (Begins : List ℕ → List ℕ → Type 0) (body : List ℕ) (at end : ℕ) : Type 0 where
  pub order : at ≤ end
  pub inside : end ≤ length body
  pub begins : Begins (drop at body) (drop end body)

-- the piece begins with a count and so many bytes
pub record BeginsRaw (piece rest : List ℕ) : Type 0 where
  pub raw : List ℕ
  pub count : List ℕ
  pub counted : IsUnsigned (length raw) count
  pub whole : piece ≡ (count ++ raw) ++ rest
