-- The names so far that are exported.
use Rattle.std.proofs.Common.{◌≡◌, take}
use Rattle.gob_go_types.specs.Fields.{exported}
use Rattle.gob_go_types.proofs.fields.exported_names.Given as goal

abbrev pub invariant-loop-name : goal.invariant-loop-name
invariant-loop-name l = l.names.items ≡ exported (take l.name-index l.line.names.items)
