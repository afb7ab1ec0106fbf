-- As many spaces are appended as steps were made.
use Rattle.std.proofs.Common.{◌≡◌, ◌++◌, replicate}
use Rattle.gob_source.proofs.text.push_spaces.Given as goal

abbrev pub invariant-loop : goal.invariant-loop
invariant-loop l = l.out.items ≡ l.fn.out.items ++ replicate l.counter 32
