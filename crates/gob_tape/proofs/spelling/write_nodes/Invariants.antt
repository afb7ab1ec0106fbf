use Rattle.std.proofs.Common.{reverse}
use Rattle.gob_tape.specs.Machine.Writing.{Progress}
use Rattle.gob_tape.proofs.spelling.write_nodes.Given as goal

abbrev pub invariant-nodes : goal.invariant-nodes
invariant-nodes l = Progress l.nodes l.pool l.place (reverse l.structs.items) l.fn.out.items l.out.items
