-- What stands at the front of a piece of a stream, or at a place of a body: a value of a kind or of a type, no deeper
-- than a limit, its parts, and the rest behind them. (docs/FORMAT.md, Values; Depth.)
use Rattle.std.specs.Prelude.{◌≡◌, ℕ, ◌+◌, ◌<◌, ◌≤◌, Bool, false, List, ◌++◌, drop, length, Some, slice_get}
use Rattle.gob_num.specs.Unsigned.{IsUnsigned}
use Rattle.gob_types.specs.declared.id.TypeId.{TypeId}
use Rattle.gob_types.specs.declared.kind.Field.{Field}
use Rattle.gob_types.specs.declared.kind.Kind.{Kind}
use Rattle.gob_types.specs.declared.kind.Shape.{Shape}
use Rattle.gob_types.specs.Table.{Table, shape_of}
use Rattle.gob_value.specs.Tree.{Tree, Trees, Pairs, Fields, depth, trees_depth, pairs_depth, fields_depth}
use Rattle.gob_value.specs.Top.{IsStruct}
use Rattle.gob_value.specs.Spelling.{Spells, SpellsAs, SpellsEach, SpellsPairs, SpellsFields}
use Rattle.gob_value.specs.Machine.Begins.{BeginsKind, BeginsThisNumber, HoldsBetween}

-- the type is one of this kind
pub record IsOfKind (T : Table) (t : TypeId) (k : Kind) : Type 0 where
  pub shape : Shape
  pub found : shape_of T t ≡ Some shape
  pub same : shape.kind ≡ k

-- the piece begins with a count and these bytes
pub record BeginsThese (raw piece rest : List ℕ) : Type 0 where
  pub count : List ℕ
  pub counted : IsUnsigned (length raw) count
  pub whole : piece ≡ (count ++ raw) ++ rest

-- the piece begins with this value of the kind, and this is the rest
pub record HoldsKind (T : Table) (k : Kind) (v : Tree) (piece rest : List ℕ) : Type 0 where
  pub bytes : List ℕ
  pub spelled : SpellsAs T k v bytes
  pub whole : piece ≡ bytes ++ rest

-- with this value of the type, no deeper than the limit
pub record HoldsValue (T : Table) (t : TypeId) (limit : ℕ) (v : Tree) (piece rest : List ℕ) : Type 0 where
  pub bytes : List ℕ
  pub spelled : Spells T t v bytes
  pub within : depth v ≤ limit
  pub whole : piece ≡ bytes ++ rest

-- with these elements
pub record BeginsElements (T : Table) (e : TypeId) (limit : ℕ) (vs : Trees) (piece rest : List ℕ) : Type 0 where
  pub bytes : List ℕ
  pub spelled : SpellsEach T e vs bytes
  pub within : trees_depth vs ≤ limit
  pub whole : piece ≡ bytes ++ rest

-- with these keys and their elements
pub record BeginsEntries (T : Table) (k e : TypeId) (limit : ℕ) (ps : Pairs) (piece rest : List ℕ) : Type 0 where
  pub bytes : List ℕ
  pub spelled : SpellsPairs T k e ps bytes
  pub within : pairs_depth ps ≤ limit
  pub whole : piece ≡ bytes ++ rest

-- with a key, and its element behind it
pub record BeginsEntry (T : Table) (k e : TypeId) (limit : ℕ) (x v : Tree) (piece rest : List ℕ) : Type 0 where
  pub behind : List ℕ
  pub key : HoldsValue T k limit x piece behind
  pub element : HoldsValue T e limit v behind rest

-- with these fields, of which the next has this number or a greater one
pub record BeginsPresent (T : Table) (types : List Field) (next limit : ℕ) (fs : Fields) (piece rest : List ℕ)
    : Type 0 where
  pub bytes : List ℕ
  pub spelled : SpellsFields T types next fs bytes
  pub within : fields_depth fs ≤ limit
  pub whole : piece ≡ bytes ++ rest

-- the field that is so much above the one before the next, with its number
abbrev pub IsNextField : List Field → (next delta : ℕ) → ℕ → Field → Type 0
IsNextField types next delta f e = (0 < delta) × (f + 1 ≡ next + delta) × (slice_get types f ≡ Some e)

-- the piece begins with a value of the one kind, and behind it one of the other
abbrev pub BeginsPair : Table → (j k : Kind) → (limit : ℕ) → (piece rest : List ℕ) → Type 0
BeginsPair T j k limit piece rest =
    (behind : List ℕ) × BeginsKind T false j limit piece behind × BeginsKind T false k limit behind rest

-- a place within the body; where it isn't known what stands there, the relation holds of what stands up to it
pub record EndsAt (known : Bool) (Begins : List ℕ → List ℕ → Type 0) (body : List ℕ) (at end : ℕ) : Type 0 where
  pub inside : end ≤ length body
  pub stands : known ≡ false → HoldsBetween Begins body at end

-- a number that stands in the body from the place on is this one, and ends here
abbrev pub NumberFrom : (body : List ℕ) → (at number end : ℕ) → Type 0
NumberFrom body at number end = (n : ℕ) (rest : List ℕ) → BeginsThisNumber n (drop at body) rest
    → (number ≡ n) × (drop end body ≡ rest)

-- the value of an item begins here: at once where the kind is a struct, else behind the tag 0
pub record IsBehindTag (k : Kind) (body : List ℕ) (begin : ℕ) : Type 0 where
  pub at_once : IsStruct k → begin ≡ 0
  pub tagged : ¬ IsStruct k → (begin ≡ 1) × (slice_get body 0 ≡ Some 0)
