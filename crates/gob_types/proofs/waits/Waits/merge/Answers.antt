use Rattle.std.proofs.Common.{subst}
use Rattle.std.proofs.lemmas.Result.{on_ok_weaker, IfOk-from_err}
use Rattle.gob_types.specs.Machine.Kept.{Waiting, IsIn, KeepsSets}
use Rattle.gob_types.specs.declared.id.TypeId.{TypeId}
use Rattle.std.proofs.Common.{Contains}
use Rattle.gob_types.proofs.WaitLaws.{merged_in}
use Rattle.gob_types.proofs.waits.Waits.merge.Goals as goal

pub returns-clause-left : goal.returns-clause-left
returns-clause-left c =
    let keeps = subst (λ (W : Waiting). KeepsSets c.take-taken.new.self W.left) c.self.view_is c.take-taken.ensures.kept
    in
    let taken = subst (λ (W : Waiting). (u : TypeId) → Contains c.take-taken.result u → IsIn W.left c.args.from u)
    c.self.view_is c.take-taken.ensures.taken in
    on_ok_weaker c.put.result (λ n. merged_in _ _ keeps taken c.take-own.ensures.kept c.take-own.ensures.taken
    c.in_ok-merged.ensures n) c.put.ensures

pub returns-in_err-merged-clause-left : goal.returns-in_err-merged-clause-left
returns-in_err-merged-clause-left c = IfOk-from_err c.from_residual.result _ c.from_residual.ensures.0
