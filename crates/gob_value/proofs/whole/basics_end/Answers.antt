use Rattle.std.proofs.Common.{[], false, arith}
use Rattle.gob_types.specs.declared.kind.Kind.TheVariants as kind
use Rattle.gob_value.proofs.WholeSteps.{both, none_stand, basic_element}
use Rattle.gob_value.proofs.whole.basics_end.Goals as goal

pub basics-preserved : goal.basics-preserved
basics-preserved c = record {
  inside = let there = c.in_ok-at.ensures [] false in there.inside;
  parts =
      λ T tidy e s f is end p. c.basics.invariant.parts T tidy e s f is end
      (both (c.in_ok-at.ensures T tidy) p (basic_element T tidy e s (kind.Basic c.args.basic) _ _ f is (omega arith)));
}

pub returns : goal.returns
returns c =
    λ T tidy e s f is. c.basics.invariant.parts T tidy e s f is c.basics.at
    (none_stand T tidy e 1 _ _ _ (omega arith) c.basics.invariant.inside)
