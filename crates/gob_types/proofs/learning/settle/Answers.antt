use Rattle.std.proofs.Common.{Option, subst}
use Rattle.std.proofs.lemmas.Result.{IfOk-from_err}
use Rattle.gob_types.specs.Defined.{types}
use Rattle.gob_types.specs.Machine.Kept.{Waiting, WasKept}
use Rattle.gob_types.proofs.GrowsLaws.{grows_then}
use Rattle.gob_types.proofs.WaitLaws.{was_ready, was_apart, was_looking}
use Rattle.gob_types.proofs.learning.settle.Goals as goal

pub learn_anew-requires : goal.learn_anew-requires
learn_anew-requires c = was_ready c.requires

pub look-requires-clause-looking : goal.look-requires-clause-looking
look-requires-clause-looking c =
    was_looking _ (subst (λ (w : Option Waiting). WasKept (types c.args.table.now) c.args.id c.args.ready.now w)
    c.in-Some.is c.requires)

pub look-requires-clause-apart : goal.look-requires-clause-apart
look-requires-clause-apart c = was_apart c.requires

pub returns-in_err-look-clause-settled : goal.returns-in_err-look-clause-settled
returns-in_err-look-clause-settled c = IfOk-from_err c.from_residual.result _ c.from_residual.ensures.0

pub returns-in_err-look-clause-grown : goal.returns-in_err-look-clause-grown
returns-in_err-look-clause-grown c = c.look.ensures.grown

pub learn_all-requires : goal.learn_all-requires
learn_all-requires c = c.in_ok-look.ensures.learning

pub returns-in_err-learn_all-clause-settled : goal.returns-in_err-learn_all-clause-settled
returns-in_err-learn_all-clause-settled c = IfOk-from_err c.from_residual-in_err-learn_all.result _
    c.from_residual-in_err-learn_all.ensures.0

pub returns-in_err-learn_all-clause-grown : goal.returns-in_err-learn_all-clause-grown
returns-in_err-learn_all-clause-grown c = grows_then c.look.ensures.grown c.learn_all.ensures.grown

pub returns-clause-settled : goal.returns-clause-settled
returns-clause-settled c = c.in_ok-learn_all.ensures.settled

pub returns-clause-grown : goal.returns-clause-grown
returns-clause-grown c = grows_then c.look.ensures.grown c.learn_all.ensures.grown
