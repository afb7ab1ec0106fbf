-- The fields of the names so far stand behind the others.
use Rattle.std.proofs.Common.{◌≡◌, ◌++◌, take}
use Rattle.gob_go_types.specs.Fields.{fields_of}
use Rattle.gob_go_types.proofs.fields.push_fields.Given as goal

abbrev pub invariant-loop-name : goal.invariant-loop-name
invariant-loop-name l = l.fields.items ≡ l.fn.fields.items ++ fields_of l.id (take l.name-index l.names)
