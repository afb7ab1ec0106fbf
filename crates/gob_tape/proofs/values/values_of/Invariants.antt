use Rattle.std.proofs.Common.{◌-◌, length}
use Rattle.gob_tape.proofs.ValueLaws.{Stacked}
use Rattle.gob_tape.proofs.values.values_of.Given as goal

abbrev pub invariant-nodes : goal.invariant-nodes
invariant-nodes l = Stacked l.nodes l.pool (length l.nodes - l.done) l.parts.items
