-- The body of an item: a type number, and then a description or a value.
-- (Go's encoding/gob documentation, Encoding Details; docs/FORMAT.md, Items and streams.)
use Rattle.std.specs.Prelude.{◌≡◌, ◌≢◌, ℕ, pos, negsuc, ◌+◌, ◌<◌, ◌≤◌, List, [], ◌∷◌, ◌++◌, length, None}
use Rattle.gob_num.specs.Signed.{IsSigned}
use Rattle.gob_types.specs.declared.id.TypeId.{TypeId}
use Rattle.gob_types.specs.declared.kind.Shape.{Shape}
use Rattle.gob_types.specs.Table.{Table, shape_of}
use Rattle.gob_types.specs.Base.{wire_type, gob_encoder_type}
use Rattle.gob_types.specs.Ready.{IsReady}
use Rattle.gob_types.specs.Definable.{IsOwnId}
use Rattle.gob_value.specs.Tree.{Tree, depth}
use Rattle.gob_value.specs.Spelling.{Spells}
use Rattle.gob_value.specs.Top.{SpellsTop}
use Rattle.gob_value.specs.Description.{Describes}
use Rattle.gob_stream.specs.Bounds.{Bounds}
use Rattle.gob_stream.specs.Item.{StreamItem, defines, puts}

-- the table has room for one more definition beyond the base table
abbrev pub HasRoom : Table → Bounds → Table → Type 0
HasRoom base L T = length T < length base + L.types

-- the id may be defined now
pub record MayDefine (base : Table) (L : Bounds) (T : Table) (id : TypeId) : Type 0 where
  pub own : IsOwnId id
  pub new : shape_of T id ≡ None
  pub room : HasRoom base L T

-- values of the type may come now
pub record MayPut (T : Table) (t : TypeId) : Type 0 where
  pub public : t ≢ gob_encoder_type
  pub ready : IsReady T t

-- the bytes are the body of the item where the types are those of T, and behind it they are those of the last table
pub data Body (base : Table) (L : Bounds) (T : Table) : StreamItem → List ℕ → Table → Type 0 where
  -- the type number of a definition is the id below 0
  definition : {id : TypeId} {n : ℕ} {v : Tree} {s : Shape} {a b : List ℕ} → MayDefine base L T id → depth v ≤ L.depth
      → Describes id v s
      → id.0 ≡ n + 1 → IsSigned (negsuc n) a → Spells T wire_type v b → Body base L T (defines id v) (a ++ b) (T
      ++ (id, s) ∷ [])
  value : {t : TypeId} {v : Tree} {a b : List ℕ} → MayPut T t → depth v ≤ L.depth
      → IsSigned (pos t.0) a → SpellsTop T t v b → Body base L T (puts t v) (a ++ b) T
