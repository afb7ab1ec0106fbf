-- A definition in the profile: the description of an opaque type may say an id above the one that is defined.
-- (docs/FORMAT.md, Ids of pointers to types that encode themselves.)
use Rattle.std.specs.Prelude.{◌≡◌, ℕ, negsuc, ◌+◌, ◌≤◌, List, [], ◌∷◌, ◌++◌}
use Rattle.gob_num.specs.Signed.{IsSigned}
use Rattle.gob_types.specs.declared.id.TypeId.{TypeId}
use Rattle.gob_types.specs.declared.kind.Shape.{Shape}
use Rattle.gob_types.specs.Table.{Table}
use Rattle.gob_types.specs.Base.{wire_type}
use Rattle.gob_value.specs.Tree.{Tree, depth}
use Rattle.gob_value.specs.Spelling.{Spells}
use Rattle.gob_value.specs.Loose.{DescribesLoosely}
use Rattle.gob_stream.specs.Bounds.{Bounds}
use Rattle.gob_stream.specs.Body.{MayDefine}

-- the bytes are a definition, as in the body of an item, and the second table is the one behind it
pub data Defines (base : Table) (L : Bounds) (T : Table) : TypeId → Tree → List ℕ → Table → Type 0 where
  defines : {id : TypeId} {n : ℕ} {v : Tree} {s : Shape} {a b : List ℕ} → MayDefine base L T id → depth v ≤ L.depth
      → DescribesLoosely id v s → id.0 ≡ n + 1 → IsSigned (negsuc n) a → Spells T wire_type v b
      → Defines base L T id v (a ++ b) (T ++ (id, s) ∷ [])
