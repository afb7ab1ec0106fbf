use Rattle.std.proofs.Common.{sym, subst}
use Rattle.std.proofs.lemmas.Result.{IfOk-from_err}
use Rattle.gob_types.specs.Machine.Walk.{AddsAll}
use Rattle.gob_types.specs.Ready.{Names}
use Rattle.gob_types.proofs.KeptLaws.{names_none, names_all}
use Rattle.gob_types.proofs.readiness.names_of.Goals as goal

pub returns-in_default : goal.returns-in_default
returns-in_default c = names_none (sym c.in_default.ensures) c.new-names.ensures

pub returns : goal.returns
returns c = names_all (sym c.in-Some.ensures)
    (subst (λ ids. AddsAll ids c.add_names.new.met (Names c.in-Some.shape.now.kind)) c.new-names.ensures
    c.in_ok-add_names.ensures)

pub returns-in_err-add_names : goal.returns-in_err-add_names
returns-in_err-add_names c = IfOk-from_err c.from_residual.result _ c.from_residual.ensures.0
