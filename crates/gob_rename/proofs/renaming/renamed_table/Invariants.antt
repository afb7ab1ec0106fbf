-- The first types are defined so far, renamed.
use Rattle.std.proofs.Common.{◌≡◌, ◌++◌, take, map}
use Rattle.gob_types.specs.Base.{base_table}
use Rattle.gob_types.specs.Defined.{types}
use Rattle.gob_rename.specs.Renaming.{definitions_of, renamed_entry}
use Rattle.gob_rename.proofs.renaming.renamed_table.Given as goal

abbrev pub invariant-loop-id : goal.invariant-loop-id
invariant-loop-id l = types l.made
    ≡ base_table ++ map (λ e. renamed_entry l.fn.renames e) (take l.id-index (definitions_of (types l.fn.table)))
