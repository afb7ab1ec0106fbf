-- Laws of nodes. (docs/LIBRARY.md, Flat nodes: this project's own.)
use Rattle.std.specs.Prelude.{ℕ, ◌≤◌, List, map}
use Rattle.gob_types.specs.declared.id.TypeId.{TypeId}
use Rattle.gob_types.specs.Table.{Table}
use Rattle.gob_value.specs.Tree.{Tree, depth}
use Rattle.gob_value.specs.Top.{SpellsTop}
use Rattle.gob_tape.specs.Flat.{Flat}
use Rattle.gob_tape.specs.FlatNodes.{flat}
use Rattle.gob_tape.specs.Meaning.{Means}
use Rattle.gob_nodes.specs.Says.{SaysValue}

-- the nodes and the bytes of a tape say the value that it means, at each type that the value has a spelling of
abbrev pub TapesSayTheirValues : Type 0
TapesSayTheirValues = (T : Table) (t : TypeId) (limit : ℕ) (tape : Flat) (v : Tree) (b : List ℕ) → Means tape v
    → SpellsTop T t v b → depth v ≤ limit → SaysValue T (map flat tape.nodes) tape.pool t limit b
