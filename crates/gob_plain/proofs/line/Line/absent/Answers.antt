-- Without zeros nothing is put.
use Rattle.gob_plain.specs.PutsTokens.{nothing_put}
use Rattle.gob_plain.proofs.ZeroLaws.{absent_none}
use Rattle.gob_plain.proofs.line.Line.absent.Goals as goal

pub returns : goal.returns
returns g c = nothing_put (absent_none c.args.style (g.S.Shapes.table c.args.table.now) c.args.types.now
    c.args.absent.start c.args.absent.end c.if-style.false)
