use Rattle.std.proofs.Common.{◌+◌, false, arith, refl}
use Rattle.gob_value.proofs.WholeSteps.{both, none_stand, number_element}
use Rattle.gob_value.proofs.WholePartSteps.{has_elements}
use Rattle.gob_value.proofs.whole_parts.whole_numbers.Goals as goal

pub returns-in_default-clause-whole : goal.returns-in_default-clause-whole
returns-in_default-clause-whole c =
    λ T e s f a. has_elements {a = 1} (omega arith)
    (c.numbers.invariant.parts T e s f a 0 c.numbers.found.count c.numbers.found.end (omega arith)
    (none_stand T false e 1 0 _ _ refl c.numbers.invariant.inside))

pub numbers-preserved : goal.numbers-preserved
numbers-preserved c = record {
  inside = c.in-Some.ensures.stands.1.inside;
  count = let n = c.numbers.invariant.count in omega arith;
  parts =
      λ T e s f a n m end more p. c.numbers.invariant.parts T e s f a (n + 1) m end (omega arith)
      (both c.in-Some.ensures.stands.1 p (number_element T false e s _ (n + 1) n f a refl));
}

pub returns-clause-whole : goal.returns-clause-whole
returns-clause-whole c =
    λ T e s f a. has_elements {a = 1} (omega arith)
    (c.numbers.invariant.parts T e s f a 0 c.numbers.found.count c.numbers.found.end (omega arith)
    (none_stand T false e 1 0 _ _ refl c.numbers.invariant.inside))
