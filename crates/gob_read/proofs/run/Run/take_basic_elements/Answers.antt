use Rattle.std.proofs.Common.{◌-◌, arith, refl}
use Rattle.gob_read.specs.declared.frame.Frame.TheVariants as frame
use Rattle.gob_read.specs.Machine.BasicParts.{no_part_taken}
use Rattle.gob_read.proofs.Machine.BasicPartSteps.{item_start, item_before, item_or_not, taken_or_not, taken_some}
use Rattle.gob_read.proofs.Machine.BasicPartSteps.{basic_on, goes_to_element, part_deep, rest_some}
use Rattle.gob_read.proofs.run.Run.take_basic_elements.Goals as goal

pub returns-in_default : goal.returns-in_default
returns-in_default g c = no_part_taken refl refl

pub elements-init : goal.elements-init
elements-init g c =
    let d = part_deep c.requires.before.expected c.requires.before.has_read in
    record {
      left = c.args.left;
      count = omega arith;
      at = item_start c.args.rest.now c.requires.before.expected c.requires.inside c.requires.fresh (omega arith);
      some = c.requires.before.some;
      same = λ z. refl;
    }

pub take_basic_part-requires-clause-inside : goal.take_basic_part-requires-clause-inside
take_basic_part-requires-clause-inside g c =
    let i = c.elements.invariant in let n = i.count in let l = c.elements-test.true in
    record {
      frame = frame.Many c.args.elem i.left;
      innermost = i.at.inside;
      goes_on =
          goes_to_element i.left (c.args.left - 1 - c.elements.index) (omega arith);
    }

pub take_basic_part-requires-clause-before : goal.take_basic_part-requires-clause-before
take_basic_part-requires-clause-before g c = item_before c.elements.invariant.at c.requires.before (omega arith)
    c.elements.invariant.some

pub returns-then-taken-eq0 : goal.returns-then-taken-eq0
returns-then-taken-eq0 g c = taken_or_not c.elements.invariant.at c.elements.invariant.same c.requires.before.room
    c.elements.invariant.some c.in_ok-taken.ensures

pub elements-preserved : goal.elements-preserved
elements-preserved g c =
    let i = c.elements.invariant in let n = i.count in let l = c.elements-test.true in
    let taken = taken_some c.in_ok-taken.ensures (omega arith) in
    let w = taken.within in
    record {
      left = c.args.left - 1 - c.elements.index;
      count = omega arith;
      at = basic_on i.at c.requires.before.room i.some (omega arith) taken;
      some = omega (arith, rest_some c.args.rest.now c.elements.used);
      same = λ z. absurd (omega arith);
    }

pub returns : goal.returns
returns g c = item_or_not c.elements.invariant.at c.elements.invariant.same
