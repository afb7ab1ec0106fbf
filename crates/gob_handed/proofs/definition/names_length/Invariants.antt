use Rattle.std.proofs.Common.{◌≡◌, ◌-◌, ◌^◌, length, take}
use Rattle.std.specs.Prelude.{min}
use Rattle.gob_handed.specs.Definition.{field_names}
use Rattle.gob_handed.proofs.definition.names_length.Given as goal

abbrev pub invariant-fields : goal.invariant-fields
invariant-fields l = l.bytes ≡ min (length (field_names (take l.place l.fields))) (2 ^ 64 - 1)
