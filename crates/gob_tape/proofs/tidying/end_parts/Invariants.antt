use Rattle.std.proofs.Common.{reverse, vec_len}
use Rattle.gob_tape.specs.Machine.Tidying.{TidyEnding}
use Rattle.gob_tape.specs.Machine.View.{state_of}
use Rattle.gob_tape.proofs.tidying.end_parts.Given as goal

abbrev pub invariant-ends : goal.invariant-ends
invariant-ends l = TidyEnding l.place (reverse l.fn.stack.items) (reverse l.stack.items) (state_of l.fn.builder)
    (state_of l.builder)

abbrev pub decreases-ends : goal.decreases-ends
decreases-ends l = vec_len l.stack
