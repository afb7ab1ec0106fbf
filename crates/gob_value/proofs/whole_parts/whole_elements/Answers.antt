use Rattle.std.proofs.Common.{◌+◌, false, arith, refl, sym}
use Rattle.gob_value.proofs.WholeSteps.{both, none_stand, element_begins}
use Rattle.gob_value.proofs.WholePartSteps.{has_elements, no_elements}
use Rattle.gob_value.proofs.whole_parts.whole_elements.Goals as goal

pub returns-in_default-clause-whole : goal.returns-in_default-clause-whole
returns-in_default-clause-whole g c = no_elements _ c.args.elem c.args.depth c.args.bytes.now

pub returns-in_default-part_end-clause-whole : goal.returns-in_default-part_end-clause-whole
returns-in_default-part_end-clause-whole g c =
    has_elements {a = c.min-depth.result} (omega arith)
    (c.elements.invariant.parts 0 c.elements.found.count c.elements.found.end (omega arith)
    (none_stand _ false _ _ 0 _ _ refl c.elements.invariant.inside))

pub elements-preserved : goal.elements-preserved
elements-preserved g c = record {
  inside = c.in-Some-part_end.ensures.inside;
  count = let n = c.elements.invariant.count in omega arith;
  parts =
      λ n m end more p. c.elements.invariant.parts (n + 1) m end (omega arith)
      (both c.in-Some-part_end.ensures p (element_begins _ false _ c.in-Some.shape.now _ (n + 1) n
      (sym c.in-Some.ensures) refl));
}

pub returns-clause-whole : goal.returns-clause-whole
returns-clause-whole g c =
    has_elements {a = c.min-depth.result} (omega arith)
    (c.elements.invariant.parts 0 c.elements.found.count c.elements.found.end (omega arith)
    (none_stand _ false _ _ 0 _ _ refl c.elements.invariant.inside))
