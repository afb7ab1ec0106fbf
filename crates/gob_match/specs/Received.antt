-- What is received of a value under two matching types. (docs/LIBRARY.md, Matching and receiving.)
use Rattle.std.specs.Prelude.{◌≡◌, ℕ, ◌+◌, List, [], ◌∷◌, Some, slice_get}
use Rattle.gob_types.specs.declared.basic.Basic.{Basic}
use Rattle.gob_types.specs.declared.id.TypeId.{TypeId}
use Rattle.gob_types.specs.declared.kind.Field.{Field}
use Rattle.gob_types.specs.declared.kind.Kind.{Kind}
use Rattle.gob_types.specs.declared.kind.Kind.TheVariants as kind
use Rattle.gob_types.specs.declared.kind.Marshal.{Marshal}
use Rattle.gob_types.specs.declared.kind.Shape.{Shape}
use Rattle.gob_types.specs.Table.{Table, shape_of}
use Rattle.gob_value.specs.Tree.{Tree, Trees, no_tree, tree, Pairs, no_pair, pair, Fields, no_field, field}
use Rattle.gob_value.specs.Tree as Value

-- the field of this number is present, with this value
pub data IsPresent : ℕ → Tree → Fields → Type 0 where
  first : {f : ℕ} {v : Tree} {fs : Fields} → IsPresent f v (field f v fs)
  later : {f h : ℕ} {v w : Tree} {fs : Fields} → IsPresent f v fs → IsPresent f v (field h w fs)

-- no field of this number is
abbrev pub IsAbsent : ℕ → Fields → Type 0
IsAbsent f fs = (v : Tree) → ¬ IsPresent f v fs

-- a field of this name is present, with a value and its type in the stream
pub record HasPresent (types : List Field) (fs : Fields) (name : List ℕ) (t : TypeId) (v : Tree) : Type 0 where
  pub number : ℕ
  pub type : Field
  pub there : slice_get types number ≡ Some type
  pub named : type.name ≡ name
  pub typed : type.id ≡ t
  pub present : IsPresent number v fs

mutual
  -- the second value is what a type of the wanted table receives of the first, a value of a type of the stream's table
  pub data Receives (T U : Table) : TypeId → TypeId → Tree → Tree → Type 0 where
    of_types : {t u : TypeId} {s r : Shape} {v w : Tree} → shape_of T t ≡ Some s → shape_of U u ≡ Some r
        → ReceivesAs T U s.kind r.kind v w → Receives T U t u v w

  -- the second value is what a kind of the wanted table receives of the first, a value of a kind of the stream's table
  pub data ReceivesAs (T U : Table) : Kind → Kind → Tree → Tree → Type 0 where
    of_basics : {b : Basic} {v : Tree} → ReceivesAs T U (kind.Basic b) (kind.Basic b) v v
    of_opaques : {m : Marshal} {v : Tree} → ReceivesAs T U (kind.Opaque m) (kind.Opaque m) v v
    of_arrays : {e f : TypeId} {n : ℕ} {vs ws : Trees} → ReceivesEach T U e f vs ws
        → ReceivesAs T U (kind.Array e n) (kind.Array f n) (Value.many vs) (Value.many ws)
    of_slices : {e f : TypeId} {vs ws : Trees} → ReceivesEach T U e f vs ws
        → ReceivesAs T U (kind.Slice e) (kind.Slice f) (Value.many vs) (Value.many ws)
    of_maps : {k l e f : TypeId} {ps qs : Pairs} → ReceivesPairs T U k l e f ps qs
        → ReceivesAs T U (kind.Map k e) (kind.Map l f) (Value.pairs ps) (Value.pairs qs)
    of_structs : {types wanted : List Field} {fs gs : Fields} → ReceivesFields T U types fs 0 wanted gs
        → ReceivesAs T U (kind.Struct types) (kind.Struct wanted) (Value.fields fs) (Value.fields gs)

  -- each element is received, in order
  pub data ReceivesEach (T U : Table) : TypeId → TypeId → Trees → Trees → Type 0 where
    no_element : {e f : TypeId} → ReceivesEach T U e f no_tree no_tree
    element : {e f : TypeId} {v w : Tree} {vs ws : Trees} → Receives T U e f v w → ReceivesEach T U e f vs ws
        → ReceivesEach T U e f (tree v vs) (tree w ws)

  -- each key and its element is received, in order; no key is merged
  pub data ReceivesPairs (T U : Table) : TypeId → TypeId → TypeId → TypeId → Pairs → Pairs → Type 0 where
    no_entry : {k l e f : TypeId} → ReceivesPairs T U k l e f no_pair no_pair
    entry : {k l e f : TypeId} {x y v w : Tree} {ps qs : Pairs} → Receives T U k l x y → Receives T U e f v w
        → ReceivesPairs T U k l e f ps qs → ReceivesPairs T U k l e f (pair x v ps) (pair y w qs)

  -- each wanted field, from this number on, is received where the stream's field of its name is present
  pub data ReceivesFields (T U : Table) : List Field → Fields → ℕ → List Field → Fields → Type 0 where
    no_more : {types : List Field} {fs : Fields} {n : ℕ} → ReceivesFields T U types fs n [] no_field
    absent : {types : List Field} {fs : Fields} {n : ℕ} {g : Field} {rest : List Field} {gs : Fields}
        → ((t : TypeId) (v : Tree) → ¬ HasPresent types fs g.name t v) → ReceivesFields T U types fs (n + 1) rest gs
        → ReceivesFields T U types fs n (g ∷ rest) gs
    received : {types : List Field} {fs : Fields} {n : ℕ} {g : Field} {rest : List Field} {t : TypeId} {v w : Tree}
        {gs : Fields} → HasPresent types fs g.name t v → Receives T U t g.id v w
        → ReceivesFields T U types fs (n + 1) rest gs → ReceivesFields T U types fs n (g ∷ rest) (field n w gs)

-- the value can be received under the pair
pub record HasReceived (T U : Table) (t u : TypeId) (v : Tree) : Type 0 where
  pub value : Tree
  pub receives : Receives T U t u v value
