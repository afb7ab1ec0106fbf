-- What the types keep when fields are renamed. (docs/LIBRARY.md, Matching and receiving: this project's own.)
use Rattle.std.specs.Prelude.{List, ℕ, ◌↔◌}
use Rattle.gob_types.specs.declared.id.TypeId.{TypeId}
use Rattle.gob_types.specs.Defined.{IsTable}
use Rattle.gob_types.specs.Ready.{IsReady}
use Rattle.gob_types.specs.Table.{Table}
use Rattle.gob_value.specs.Top.{SpellsTop}
use Rattle.gob_value.specs.Tree.{Tree}
use Rattle.gob_rename.specs.declared.rename.Rename.{Rename}
use Rattle.gob_rename.specs.Renaming.{renamed}

-- the bytes of a value, behind its tag, are those of the value by the renamed types
abbrev pub KeepsSpellings : Type 0
KeepsSpellings = (rs : List Rename) (T : Table) (t : TypeId) (v : Tree) (b : List ℕ) → IsTable T
    → SpellsTop T t v b ↔ SpellsTop (renamed rs T) t v b

-- and the same types are ready
abbrev pub KeepsReadiness : Type 0
KeepsReadiness = (rs : List Rename) (T : Table) (t : TypeId) → IsTable T → IsReady T t ↔ IsReady (renamed rs T) t
