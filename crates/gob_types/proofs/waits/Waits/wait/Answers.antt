use Rattle.std.proofs.Common.{subst}
use Rattle.std.proofs.lemmas.Result.{IfOk-from_err}
use Rattle.gob_types.specs.Machine.Kept.{Waiting, IsSet}
use Rattle.gob_types.proofs.WaitLaws.{knows_on, knows_set}
use Rattle.gob_types.proofs.waits.Waits.wait.Goals as goal

pub invariant_of-self-2 : goal.invariant_of-self-2
invariant_of-self-2 c =
    let n : IsSet c.self.inside.awaited.entries c.insert.new.self.entries c.args.id c.args.awaited =
    record { each = c.in_ok-insert.ensures.updates.0 } in
    knows_set (knows_on c.self.invariant c.add.ensures.kept) n c.in_ok-add.ensures.added

pub returns-clause-awaited : goal.returns-clause-awaited
returns-clause-awaited c =
    let n : IsSet c.self.inside.awaited.entries c.insert.new.self.entries c.args.id c.args.awaited =
    record { each = c.in_ok-insert.ensures.updates.0 } in
    subst (λ (w : Waiting). IsSet w.awaited c.insert.new.self.entries c.args.id c.args.awaited) c.self.view_is n

pub returns-in_err-add-clause-awaited : goal.returns-in_err-add-clause-awaited
returns-in_err-add-clause-awaited c = IfOk-from_err c.from_residual.result _ c.from_residual.ensures.0

pub returns-in_err-insert-clause-awaited : goal.returns-in_err-insert-clause-awaited
returns-in_err-insert-clause-awaited c = IfOk-from_err c.from_residual-in_err-insert.result _
    c.from_residual-in_err-insert.ensures.0
