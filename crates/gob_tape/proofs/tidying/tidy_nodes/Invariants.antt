use Rattle.std.proofs.Common.{reverse}
use Rattle.gob_tape.specs.Machine.Tidying.{TidyReaches}
use Rattle.gob_tape.specs.Machine.View.{state_of}
use Rattle.gob_tape.proofs.tidying.tidy_nodes.Given as goal

abbrev pub invariant-nodes : goal.invariant-nodes
invariant-nodes g l = TidyReaches (g.S.Shapes.table l.shapes) l.id l.nodes l.pool l.place (reverse l.stack.items)
    (state_of l.builder)
