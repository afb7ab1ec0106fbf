-- What stays true of a type when the table grows, and what is true of the types that a shape names.
-- (docs/FORMAT.md, Readiness.)
use Rattle.std.specs.Prelude.{◌≡◌, ◌↔◌, ℕ, suc, ◌<◌, Some}
use Rattle.gob_types.specs.declared.id.TypeId.{TypeId}
use Rattle.gob_types.specs.declared.kind.Kind.TheVariants as kind
use Rattle.gob_types.specs.declared.kind.Shape.{Shape}
use Rattle.gob_types.specs.Table.{Table, shape_of, Extends}
use Rattle.gob_types.specs.Ready.{Names, Reaches, HasRank, IsReady}

-- a defined type has the same shape in each table that extends its own
abbrev pub KeepsShapes : Type 0
KeepsShapes = (T U : Table) (t : TypeId) (s : Shape) → Extends T U → shape_of T t ≡ Some s → shape_of U t ≡ Some s

-- a ready type stays ready
abbrev pub StaysReady : Type 0
StaysReady = (T U : Table) (t : TypeId) → Extends T U → IsReady T t → IsReady U t

-- and reaches the types that it reached, and no others
abbrev pub KeepsReach : Type 0
KeepsReach = (T U : Table) (t u : TypeId) → Extends T U → IsReady T t → Reaches T t u ↔ Reaches U t u

-- which have the shapes that they had
abbrev pub KeepsReachedShapes : Type 0
KeepsReachedShapes = (T U : Table) (t u : TypeId) → Extends T U → IsReady T t → Reaches T t u
    → shape_of U u ≡ shape_of T u

-- each type that the shape of a ready type names is ready
abbrev pub NamesReady : Type 0
NamesReady = (T : Table) (t u : TypeId) (s : Shape) → IsReady T t → shape_of T t ≡ Some s → Names s.kind u → IsReady T u

-- a ready array that holds something has a rank, which is one above that of its elements
abbrev pub RanksArrays : Type 0
RanksArrays = (T : Table) (t e : TypeId) (n : ℕ) (s : Shape) → IsReady T t → shape_of T t ≡ Some s
    → s.kind ≡ kind.Array e n → 0 < n → (rank : ℕ) × HasRank T rank e × HasRank T (suc rank) t

-- no type has two ranks
abbrev pub HasOneRank : Type 0
HasOneRank = (T : Table) (t : TypeId) (m n : ℕ) → HasRank T m t → HasRank T n t → m ≡ n
