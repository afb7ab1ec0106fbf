use Rattle.std.proofs.Common.{arith}
use Rattle.gob_stream.proofs.Reader.WholeSteps.{no_items, items_more}
use Rattle.gob_stream.proofs.values.runs_of.Goals as goal

pub runs-init : goal.runs-init
runs-init c = record { inside = omega arith; few = omega arith; are = λ L offset a. no_items 0 (omega arith) }

pub runs-preserved : goal.runs-preserved
runs-preserved c = record {
  inside = c.values_of-run.ensures.inside;
  few = omega (arith, c.runs.invariant.few, c.values_of-run.ensures.few);
  are = λ L offset a. items_more (c.runs.invariant.are L offset a) (c.values_of-run.ensures.are L offset a);
}
