use Rattle.gob_tape.specs.Machine.Values.{parts_on}
use Rattle.gob_tape.proofs.ValueLaws.{FieldsGo}
use Rattle.gob_tape.proofs.values.take_fields.Given as goal

abbrev pub invariant-fields : goal.invariant-fields
invariant-fields l = FieldsGo l.counter l.count l.values.items (parts_on l.fn.parts.items) (parts_on l.parts.items)
