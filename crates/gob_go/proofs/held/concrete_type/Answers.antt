use Rattle.std.proofs.lemmas.Result.{err_from_is_err_and}
use Rattle.gob_types.specs.Defined.{types}
use Rattle.gob_go.proofs.ConcreteSteps.{concrete_denied, concrete_ends}
use Rattle.gob_go.proofs.held.concrete_type.Goals as goal

pub returns-in-Err : goal.returns-in-Err
returns-in-Err c =
    rw c.of.ensures (concrete_denied (types c.args.table.now) c.args.place c.args.around.now.taken c.args.end c.args.id
    c.in-Err.denial c.in-Err.ensures.judged)

pub returns-in_err-goes_on : goal.returns-in_err-goes_on
returns-in_err-goes_on c =
    let p = err_from_is_err_and c.from_residual.result c.from_residual.ensures.1 in
    rw (p.1, p.2) (concrete_ends c.args.place c.args.around.now.taken c.args.end c.in_err-goes_on.field-0.0
    c.in_default.ensures.judged c.in_err-goes_on.ensures)
