use Rattle.std.proofs.Common.{reverse, vec_len}
use Rattle.gob_tape.specs.Machine.Writing.{WritingEnding}
use Rattle.gob_tape.proofs.spelling.end_structs.Given as goal

abbrev pub invariant-ends : goal.invariant-ends
invariant-ends l = WritingEnding l.place (reverse l.fn.structs.items) (reverse l.structs.items) l.fn.out.items
    l.out.items

abbrev pub decreases-ends : goal.decreases-ends
decreases-ends l = vec_len l.structs
