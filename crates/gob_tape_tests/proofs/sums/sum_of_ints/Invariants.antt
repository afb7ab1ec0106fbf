-- The sum so far, with those of the elements to come, is the list's.
use Rattle.std.proofs.Common.{ℕ, Option}
use Rattle.gob_value.specs.Tree.{Trees, many}
use Rattle.gob_tape.specs.Seeing.{Sees}
use Rattle.gob_tape_tests.specs.Sums.{sum_of}
use Rattle.gob_tape_tests.proofs.SumLaws.{SumLeft}
use Rattle.gob_tape_tests.proofs.sums.sum_of_ints.Given as goal

abbrev pub invariant-loop-child : goal.invariant-loop-child
invariant-loop-child l = record {
  next : goal.iterator-loop-child.can_next l.child-iterator;
  finite : goal.iterator-loop-child.is_finite l.child-iterator;
  summed : (f : Option ℕ) (vs : Trees) → Sees l.fn.list f (many vs) → SumLeft l.child-iterator l.sum (sum_of vs);
}
