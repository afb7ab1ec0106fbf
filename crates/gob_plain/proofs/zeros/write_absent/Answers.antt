-- The style has zeros or hasn't.
use Rattle.gob_plain.proofs.SomeLaws.{some_weaker}
use Rattle.gob_plain.proofs.ZeroLaws.{absent_none, absent_zeros, some_nothing}
use Rattle.gob_plain.proofs.zeros.write_absent.Goals as goal

pub returns-else-style : goal.returns-else-style
returns-else-style g c =
    some_nothing
    (absent_none c.args.style (g.S.Shapes.table c.args.table.now) c.args.types.now c.args.absent.start
    c.args.absent.end c.if-style.false)

pub returns-then-style : goal.returns-then-style
returns-then-style g c =
    some_weaker
    (λ ts p. absent_zeros c.args.style (g.S.Shapes.table c.args.table.now) c.args.types.now c.args.absent.start
    c.args.absent.end ts c.if-style.true p)
    c.write_zeros.ensures
