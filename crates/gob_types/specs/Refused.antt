-- Which definitions a table refuses. The first of the reasons that holds is given.
-- (docs/FORMAT.md, Refusals.)
use Rattle.std.specs.Prelude.{◌≡◌, ◌≤◌, None}
use Rattle.gob_types.specs.declared.id.TypeId.{TypeId}
use Rattle.gob_types.specs.declared.table.DefineFault.{DefineFault}
use Rattle.gob_types.specs.declared.table.DefineFault.TheVariants as fault
use Rattle.gob_types.specs.Table.{shape_of, IsDefined}
use Rattle.gob_types.specs.Definable.{IsOwnId}
use Rattle.gob_types.specs.Defined.{Defined, types, definition_count, Admits}

-- the definition of this id is refused for this reason; out of memory is one where none of the others holds
abbrev pub RefusesToDefine : Defined → TypeId → DefineFault → Type 0
RefusesToDefine d t fault.ReservedType = ¬ IsOwnId t
RefusesToDefine d t fault.DefinedTwice = IsOwnId t × IsDefined (types d) t
RefusesToDefine d t fault.TooManyTypes = IsOwnId t × (shape_of (types d) t ≡ None)
    × (d.most ≤ definition_count (types d))
RefusesToDefine d t fault.Memory = Admits d t
