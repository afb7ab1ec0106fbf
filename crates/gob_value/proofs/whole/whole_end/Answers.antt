use Rattle.gob_value.proofs.WholeLaws.{top_between}
use Rattle.gob_value.proofs.WholeSteps.{if_some}
use Rattle.gob_value.proofs.whole.whole_end.Goals as goal

pub returns : goal.returns
returns g c = if_some c.top_end.result (λ end s. top_between c.args.bytes.now c.args.at end s) c.top_end.ensures
