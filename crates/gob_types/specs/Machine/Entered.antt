-- A table with one more entry, as a map takes it.
use Rattle.std.specs.Prelude.{◌==◌, Bool}
use Rattle.indexmap.specs.IndexMap.{insert_entry}
use Rattle.gob_types.specs.declared.id.TypeId.{TypeId}
use Rattle.gob_types.specs.declared.kind.Shape.{Shape}
use Rattle.gob_types.specs.Table.{Table}

abbrev pub same_id : TypeId → TypeId → Bool
same_id t u = t.0 == u.0

-- the shape takes the place of the id's own, or the entry goes last
abbrev pub with_entry : Table → TypeId → Shape → Table
with_entry T t s = insert_entry same_id T t s
