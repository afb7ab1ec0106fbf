use Rattle.std.proofs.Common.{subst}
use Rattle.std.proofs.lemmas.Result.{IfOk-from_err}
use Rattle.gob_types.specs.Machine.Kept.{Sets, IsSet}
use Rattle.gob_types.proofs.sets.Sets.put.Goals as goal

pub returns-in_err-insert : goal.returns-in_err-insert
returns-in_err-insert c = IfOk-from_err c.from_residual.result _ c.from_residual.ensures.0

pub returns : goal.returns
returns c =
    let n : IsSet c.self.inside.sets.entries c.insert.new.self.entries c.args.id c.args.set =
    record { each = c.in_ok-insert.ensures.updates.0 } in
    subst (λ (m : Sets). IsSet m c.insert.new.self.entries c.args.id c.args.set) c.self.view_is n
