use Rattle.std.proofs.Common.{arith}
use Rattle.gob_num.proofs.PlaceLaws.{passes_none, passes_one_more, passes_both, none_left}
use Rattle.gob_num.proofs.place.uints_end.Goals as goal

pub numbers-init : goal.numbers-init
numbers-init c = record { counts = λ l. omega arith; passed = passes_none }

pub numbers-preserved : goal.numbers-preserved
numbers-preserved c = record {
  counts = c.in_ok-end.ensures.counts;
  passed = passes_both (passes_one_more (omega (arith, c.numbers-test.true)) c.in_ok-end.ensures.found
      c.numbers.invariant.passed)
      c.pass_next-place.ensures;
}

pub returns-clause-found : goal.returns-clause-found
returns-clause-found c = c.numbers.invariant.passed.more c.numbers.at (none_left (omega (arith, c.numbers-test.false)))
