use Rattle.gob_go.proofs.PutSteps.{none_behind}
use Rattle.gob_go.proofs.put.behind_part.Goals as goal

pub returns-in-None : goal.returns-in-None
returns-in-None c = none_behind c.args.levels c.args.around.now.taken c.args.taken.used c.into_filled-value.result
    c.in-None.is c.into_innermost-innermost.ensures c.into_filled-value.ensures.skeleton
    c.into_filled-value.ensures.fillings c.whole.ensures
