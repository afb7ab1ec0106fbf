-- The laws of spellings. (They follow from Go's encoding/gob documentation, Encoding Details; docs/FORMAT.md, Values.)
use Rattle.std.specs.Prelude.{ℕ, List}
use Rattle.gob_num.specs.Laws.{BeginNoOther, AreUnique, TellTheValue}
use Rattle.gob_types.specs.declared.id.TypeId.{TypeId}
use Rattle.gob_types.specs.Table.{Table, Extends}
use Rattle.gob_types.specs.Ready.{IsReady}
use Rattle.gob_value.specs.Tree.{Tree}

-- a relation of a type's values with bytes, under a table
abbrev pub Spelling : Type 1
Spelling = Table → TypeId → Tree → List ℕ → Type 0

-- no spelling begins another one of its type
abbrev pub EndByThemselves : Spelling → Type 0
EndByThemselves S = (T : Table) (t : TypeId) → BeginNoOther Tree (S T t)

-- a value has one spelling at a type
abbrev pub AreOne : Spelling → Type 0
AreOne S = (T : Table) (t : TypeId) → AreUnique Tree (S T t)

-- equal spellings have equal values
abbrev pub HaveOneValue : Spelling → Type 0
HaveOneValue S = (T : Table) (t : TypeId) → TellTheValue Tree (S T t)

-- a spelling stays one when the table grows
abbrev pub StaySpelled : Spelling → Type 0
StaySpelled S = (T U : Table) (t : TypeId) (v : Tree) (b : List ℕ) → Extends T U → S T t v b → S U t v b

-- and a ready type gets no others
abbrev pub AreNoMore : Spelling → Type 0
AreNoMore S = (T U : Table) (t : TypeId) (v : Tree) (b : List ℕ) → Extends T U → IsReady T t → S U t v b → S T t v b
