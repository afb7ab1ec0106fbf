use Rattle.gob_tape.specs.Machine.Values.{parts_on}
use Rattle.gob_tape.proofs.ValueLaws.{PairsGo}
use Rattle.gob_tape.proofs.values.take_pairs.Given as goal

abbrev pub invariant-pairs : goal.invariant-pairs
invariant-pairs l = PairsGo l.counter l.count l.values.items (parts_on l.fn.parts.items) (parts_on l.parts.items)
