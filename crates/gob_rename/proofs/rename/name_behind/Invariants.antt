-- The name so far is renamed on as the field's own is by all of them.
use Rattle.std.proofs.Common.{◌≡◌, drop}
use Rattle.gob_rename.specs.Renaming.{name_behind}
use Rattle.gob_rename.proofs.rename.name_behind.Given as goal

abbrev pub invariant-loop-rename : goal.invariant-loop-rename
invariant-loop-rename l = name_behind (drop l.rename-index l.renames) l.struct_name l.name
    ≡ name_behind l.renames l.struct_name l.field_name
