use Rattle.gob_tape.specs.Machine.Values.{parts_on}
use Rattle.gob_tape.proofs.ValueLaws.{ElementsGo}
use Rattle.gob_tape.proofs.values.take_elements.Given as goal

abbrev pub invariant-elements : goal.invariant-elements
invariant-elements l = ElementsGo l.counter l.count l.values.items (parts_on l.fn.parts.items) (parts_on l.parts.items)
