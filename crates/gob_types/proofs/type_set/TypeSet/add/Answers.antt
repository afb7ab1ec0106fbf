use Rattle.std.proofs.Common.{subst, nat_lt}
use Rattle.std.proofs.lemmas.Result.{IfOk-from_err}
use Rattle.gob_types.specs.Machine.Walk.{AddsOne}
use Rattle.gob_types.proofs.SetLaws.{added_told}
use Rattle.gob_types.proofs.type_set.TypeSet.add.Goals as goal

pub returns-clause-added : goal.returns-clause-added
returns-clause-added c =
    let keys = c.insert.new.self.keys in
    subst (λ ids. AddsOne ids keys c.args.id (nat_lt c.len-count.result c.len.result)) c.self.view_is
    (added_told c.self.inside.ids.keys keys c.args.id c.len-count.result c.len.result c.in_ok-insert.ensures.keys
    c.len-count.ensures.len c.len.ensures.len)

pub returns-in_err-insert-clause-added : goal.returns-in_err-insert-clause-added
returns-in_err-insert-clause-added c = IfOk-from_err c.from_residual.result _ c.from_residual.ensures.0
