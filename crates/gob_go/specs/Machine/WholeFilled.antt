-- What the bytes of a piece begin with, as the walk over whole values with fillings finds it: a value, or so many parts
-- of one, no deeper than a limit, and the rest of the piece behind it. The skeleton of a part is its spelling with nil
-- where an interface holds something.
use Rattle.std.specs.Prelude.{◌≡◌, ℕ, ◌+◌, ◌-◌, ◌<◌, ◌≤◌, List, ◌++◌, Some, slice_get}
use Rattle.gob_num.specs.Unsigned.{IsUnsigned, AreBytes}
use Rattle.gob_types.specs.declared.id.TypeId.{TypeId}
use Rattle.gob_types.specs.declared.kind.Field.{Field}
use Rattle.gob_types.specs.declared.kind.Kind.{Kind}
use Rattle.gob_types.specs.declared.kind.Shape.{Shape}
use Rattle.gob_types.specs.Table.{Table, shape_of}
use Rattle.gob_value.specs.Tree.{Tree, Trees, Pairs, Fields, depth, trees_depth, pairs_depth, fields_depth}
use Rattle.gob_value.specs.Tree.{tree_count, pair_count}
use Rattle.gob_value.specs.Spelling.{Spells, SpellsEach, SpellsPairs, SpellsFields}
use Rattle.gob_read.specs.Expected.{a_number, nil}
use Rattle.gob_read.specs.Expects.{FieldsRun, Expects, ExpectsTop}
use Rattle.gob_stream.specs.Bounds.{Bounds}
use Rattle.gob_filled.specs.Filled.{Filled, Fillings, Fills, SpellsFilled}

-- the type is of this kind
abbrev pub IsOfKind : Table → TypeId → Kind → Type 0
IsOfKind T t k = (s : Shape) × (shape_of T t ≡ Some s) × (s.kind ≡ k)

-- ---- where a part begins
-- behind these bytes of the skeleton of a value a part of the other type begins, with so many open parts around it:
-- where nil is expected in the part, it is in the value
abbrev pub LeadsToNils : Table → (t : TypeId) → (before : List ℕ) → (u : TypeId) → (around : ℕ) → Type 0
LeadsToNils T t p u around = (q : List ℕ) (d : ℕ) → Expects T u q (a_number nil) d
    → ExpectsTop T t (p ++ q) (a_number nil) (around + d)

-- so does each of so many elements, behind the ones before it
abbrev pub LeadsToEach : Table → (t : TypeId) → (before : List ℕ) → (e : TypeId) → (around count : ℕ) → Type 0
LeadsToEach T t p e around n = (vs : Trees) (q : List ℕ) → SpellsEach T e vs q → tree_count vs < n
    → LeadsToNils T t (p ++ q) e around

-- and each key of so many pairs, and each element behind its key
abbrev pub LeadsToKeys : Table → (t : TypeId) → (before : List ℕ) → (k e : TypeId) → (around count : ℕ) → Type 0
LeadsToKeys T t p k e around n = (ps : Pairs) (q : List ℕ) → SpellsPairs T k e ps q → pair_count ps < n
    → LeadsToNils T t (p ++ q) k around

abbrev pub LeadsToValues : Table → (t : TypeId) → (before : List ℕ) → (k e : TypeId) → (around count : ℕ) → Type 0
LeadsToValues T t p k e around n = (ps : Pairs) (x : Tree) (q a : List ℕ) → SpellsPairs T k e ps q → pair_count ps < n
    → Spells T k x a → LeadsToNils T t (p ++ (q ++ a)) e around

-- and each field, behind those before it and its delta
abbrev pub LeadsToFields : Table → (t : TypeId) → (before : List ℕ) → List Field → (around : ℕ) → Type 0
LeadsToFields T t p types around = (next f : ℕ) (e : Field) (a b : List ℕ) → FieldsRun T types 0 next a → next ≤ f
    → slice_get types f ≡ Some e → IsUnsigned (f + 1 - next) b → LeadsToNils T t (p ++ (a ++ b)) e.id around

-- ---- what fills the nils of a part
-- what fills the nils behind these bytes of a skeleton, where that fills those behind the part
abbrev pub Filler : Type 0
Filler = List ℕ → Fillings → Fillings

-- wherever the part has this skeleton, the bytes are it with what fills its nils
abbrev pub FillsPart : Table → (u : TypeId) → (limit : ℕ) → (skeleton bytes : List ℕ) → Filler → Type 0
FillsPart T u limit b m fill = (base : Table) (L : Bounds) (t : TypeId) (p left ls : List ℕ) (fs : Fillings)
    (around most : ℕ) → LeadsToNils T t p u around → most ≡ around + limit
    → Fills base L T t most T (p ++ b) left fs ls T → Fills base L T t most T p (b ++ left) (fill p fs) (m ++ ls) T

-- of so many elements, the last ones of a list that has others before them
abbrev pub FillsEach : Table → (e : TypeId) → (limit count : ℕ) → (skeleton bytes : List ℕ) → Filler → Type 0
FillsEach T e limit n b m fill = (base : Table) (L : Bounds) (t : TypeId) (p q left ls : List ℕ) (fs : Fillings)
    (around most all : ℕ) (before : Trees) → LeadsToEach T t p e around all → SpellsEach T e before q
    → tree_count before + n ≡ all → most ≡ around + limit → Fills base L T t most T ((p ++ q) ++ b) left fs ls T
    → Fills base L T t most T (p ++ q) (b ++ left) (fill (p ++ q) fs) (m ++ ls) T

-- of so many pairs
abbrev pub FillsPairs : Table → (k e : TypeId) → (limit count : ℕ) → (skeleton bytes : List ℕ) → Filler → Type 0
FillsPairs T k e limit n b m fill = (base : Table) (L : Bounds) (t : TypeId) (p q left ls : List ℕ) (fs : Fillings)
    (around most all : ℕ) (before : Pairs) → LeadsToKeys T t p k e around all → LeadsToValues T t p k e around all
    → SpellsPairs T k e before q → pair_count before + n ≡ all → most ≡ around + limit
    → Fills base L T t most T ((p ++ q) ++ b) left fs ls T
    → Fills base L T t most T (p ++ q) (b ++ left) (fill (p ++ q) fs) (m ++ ls) T

-- of fields, of which the next has this number or a greater one
abbrev pub FillsFields : Table → List Field → (next limit : ℕ) → (skeleton bytes : List ℕ) → Filler → Type 0
FillsFields T types next limit b m fill = (base : Table) (L : Bounds) (t : TypeId) (p q left ls : List ℕ)
    (fs : Fillings) (around most : ℕ) → LeadsToFields T t p types around → FieldsRun T types 0 next q
    → most ≡ around + limit → Fills base L T t most T ((p ++ q) ++ b) left fs ls T
    → Fills base L T t most T (p ++ q) (b ++ left) (fill (p ++ q) fs) (m ++ ls) T

-- ---- what a piece begins with
-- a value of the type, and this is the rest
pub record BeginsFilled (T : Table) (u : TypeId) (limit : ℕ) (piece rest : List ℕ) : Type 0 where
  pub value : Tree
  pub skeleton : List ℕ
  pub bytes : List ℕ
  pub fill : Filler
  pub spelled : Spells T u value skeleton
  pub within : depth value ≤ limit
  pub whole : piece ≡ bytes ++ rest
  pub fills : AreBytes bytes → FillsPart T u limit skeleton bytes fill

-- so many elements
pub record BeginsFilledEach (T : Table) (e : TypeId) (limit count : ℕ) (piece rest : List ℕ) : Type 0 where
  pub values : Trees
  pub skeleton : List ℕ
  pub bytes : List ℕ
  pub fill : Filler
  pub spelled : SpellsEach T e values skeleton
  pub within : trees_depth values ≤ limit
  pub counted : tree_count values ≡ count
  pub whole : piece ≡ bytes ++ rest
  pub fills : AreBytes bytes → FillsEach T e limit count skeleton bytes fill

-- so many keys and their elements
pub record BeginsFilledPairs (T : Table) (k e : TypeId) (limit count : ℕ) (piece rest : List ℕ) : Type 0 where
  pub pairs : Pairs
  pub skeleton : List ℕ
  pub bytes : List ℕ
  pub fill : Filler
  pub spelled : SpellsPairs T k e pairs skeleton
  pub within : pairs_depth pairs ≤ limit
  pub counted : pair_count pairs ≡ count
  pub whole : piece ≡ bytes ++ rest
  pub fills : AreBytes bytes → FillsPairs T k e limit count skeleton bytes fill

-- the present fields, of which the next has this number or a greater one
pub record BeginsFilledFields (T : Table) (types : List Field) (next limit : ℕ) (piece rest : List ℕ) : Type 0 where
  pub fields : Fields
  pub skeleton : List ℕ
  pub bytes : List ℕ
  pub fill : Filler
  pub spelled : SpellsFields T types next fields skeleton
  pub within : fields_depth fields ≤ limit
  pub whole : piece ≡ bytes ++ rest
  pub fills : AreBytes bytes → FillsFields T types next limit skeleton bytes fill

-- a value of the type behind its tag, which a struct doesn't have
pub record BeginsFilledTop (T : Table) (t : TypeId) (limit : ℕ) (piece rest : List ℕ) : Type 0 where
  pub value : Filled
  pub bytes : List ℕ
  pub whole : piece ≡ bytes ++ rest
  pub spelled : AreBytes bytes → (base : Table) (L : Bounds) → SpellsFilled base L T t limit value bytes T
