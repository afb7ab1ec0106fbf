use Rattle.std.proofs.Common.{sym}
use Rattle.gob_counted.proofs.CountLaws.{checks_as}
use Rattle.gob_counted.proofs.check.check_bytes.Goals as goal

pub returns : goal.returns
returns g c = λ countable.
    checks_as g.S.Steps.stepping _ c.args.limits c.args.bytes.now _ c.tally.result c.count_all-ended.result
    c.in-Ok.ensures.limits (sym c.tally.ensures) (c.count_all-ended.ensures (c.in-Ok.ensures.counted countable))
