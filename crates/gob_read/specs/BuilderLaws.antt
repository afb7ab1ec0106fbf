-- The laws of events and weights.
-- (docs/LIBRARY.md, Events.)
use Rattle.std.specs.Prelude.{◌≡◌, ℕ, ◌+◌, ◌≤◌, List, ◌++◌, length}
use Rattle.gob_types.specs.declared.id.TypeId.{TypeId}
use Rattle.gob_types.specs.Table.{Table}
use Rattle.gob_value.specs.Tree.{Tree}
use Rattle.gob_value.specs.Spelling.{Spells}
use Rattle.gob_read.specs.Event.{Event, HasEvents}
use Rattle.gob_read.specs.WellFormed.{IsWellFormed}
use Rattle.gob_read.specs.Weight.{weight, parts_told, raw_told}

-- a list of events is that of one value at most
abbrev pub EventsHaveOneValue : Type 0
EventsHaveOneValue = (us : List Event) (v w : Tree) → HasEvents v us → HasEvents w us → v ≡ w

-- the events of a value that a type has are well formed
abbrev pub EventsAreWellFormed : Type 0
EventsAreWellFormed = (T : Table) (t : TypeId) (v : Tree) (b : List ℕ) (us : List Event) → Spells T t v b
    → HasEvents v us → IsWellFormed us

-- so is each prefix of a well formed list
abbrev pub HaveWellFormedPrefixes : Type 0
HaveWellFormedPrefixes = (us ws : List Event) → IsWellFormed (us ++ ws) → IsWellFormed us

-- the events of a value have its parts and raw bytes
abbrev pub EventsHaveTheWeight : Type 0
EventsHaveTheWeight = (v : Tree) (us : List Event) → HasEvents v us → parts_told us + raw_told us ≡ weight v

-- no value weighs more than its spelling is long
abbrev pub WeighAtMostTheirLength : (Table → TypeId → Tree → List ℕ → Type 0) → Type 0
WeighAtMostTheirLength S = (T : Table) (t : TypeId) (v : Tree) (b : List ℕ) → S T t v b → weight v ≤ length b
