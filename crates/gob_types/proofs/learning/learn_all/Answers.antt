use Rattle.std.proofs.lemmas.Bool.Decides.{when_true}
use Rattle.std.proofs.lemmas.Result.{IfOk-from_err}
use Rattle.gob_types.proofs.GrowsLaws.{grows_not, grows_then}
use Rattle.gob_types.proofs.WaitLaws.{queue_looks, queue_drops, queue_ends}
use Rattle.gob_types.proofs.learning.learn_all.Goals as goal

pub loop-preserved-then-is_judged : goal.loop-preserved-then-is_judged
loop-preserved-then-is_judged c = record {
  learning = queue_drops _ c.loop.invariant.learning c.in-Some.ensures
      (when_true _ _ c.if-is_judged.true c.is_judged.ensures);
  grown = c.loop.invariant.grown;
}

pub look-requires-clause-looking : goal.look-requires-clause-looking
look-requires-clause-looking c = queue_looks _ c.loop.invariant.learning c.in-Some.ensures

pub returns-in_default-clause-settled : goal.returns-in_default-clause-settled
returns-in_default-clause-settled c = queue_ends c.loop.invariant.learning c.in_default.ensures.0

pub loop-init : goal.loop-init
loop-init c = record { learning = c.requires; grown = grows_not }

pub returns-in_default-clause-grown : goal.returns-in_default-clause-grown
returns-in_default-clause-grown c = c.loop.invariant.grown

pub returns-in_err-look-clause-settled : goal.returns-in_err-look-clause-settled
returns-in_err-look-clause-settled c = IfOk-from_err c.from_residual.result _ c.from_residual.ensures.0

pub returns-in_err-look-clause-grown : goal.returns-in_err-look-clause-grown
returns-in_err-look-clause-grown c = grows_then c.loop.invariant.grown c.look.ensures.grown

pub loop-preserved : goal.loop-preserved
loop-preserved c = record {
  learning = c.in_ok-look.ensures.learning;
  grown = grows_then c.loop.invariant.grown
      c.look.ensures.grown;
}

pub returns-clause-grown : goal.returns-clause-grown
returns-clause-grown c = c.loop.invariant.grown
