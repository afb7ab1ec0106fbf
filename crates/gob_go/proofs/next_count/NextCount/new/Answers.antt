use Rattle.std.proofs.lemmas.Result.{err_from_is_err_and}
use Rattle.gob_go.proofs.NextCountSteps.{count_fault}
use Rattle.gob_go.proofs.next_count.NextCount.new.Goals as goal

pub returns-in_err-goes_on : goal.returns-in_err-goes_on
returns-in_err-goes_on c =
    let p = err_from_is_err_and c.from_residual.result c.from_residual.ensures.1 in
    rw (p.1, p.2) (count_fault c.args.levels.now c.args.around.now.taken c.in_err-goes_on.field-0.0
    c.end_around-end.ensures c.in_err-goes_on.ensures)
