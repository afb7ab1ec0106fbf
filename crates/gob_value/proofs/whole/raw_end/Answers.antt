use Rattle.std.proofs.Common.{arith}
use Rattle.gob_value.proofs.WholeSteps.{raw_stands}
use Rattle.gob_value.proofs.whole.raw_end.Goals as goal

pub returns : goal.returns
returns c =
    raw_stands c.args.body.now c.args.at c.in_ok-count.behind c.in_ok-count.count c.in_ok-count.ensures.stands
    (omega arith)
