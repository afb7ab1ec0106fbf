-- A line was put out, or one that has failed, or none behind a fault.
use Rattle.std.proofs.Common.{◌∙◌, sym}
use Rattle.gob_explain.proofs.PutLaws.{line_fails, line_put, line_skipped}
use Rattle.gob_explain.proofs.text.lines_out.LinesOut.put_line.Goals as goal

pub returns-then-is_some : goal.returns-then-is_some
returns-then-is_some g c =
    let s = c.args.self.now in
    line_skipped g.O.TextOut.puts c.args.offset c.args.bytes.now c.args.levels s.out s.fault
    (sym c.is_some.ensures ∙ c.if-is_some.true)

pub returns-in-Ok : goal.returns-in-Ok
returns-in-Ok g c =
    let s = c.args.self.now in
    let n = c.put_next.new.self in
    line_put g.O.TextOut.puts c.args.offset c.args.bytes.now c.args.levels s.out n.out s.fault n.fault _
    (sym c.is_some.ensures ∙ c.if-is_some.false) c.put_next.ensures.fault c.in-Ok.ensures.put

pub returns-in-Err : goal.returns-in-Err
returns-in-Err g c =
    let s = c.args.self.now in
    line_fails g.O.TextOut.puts g.met.O.TextOut.nothing c.args.offset c.args.bytes.now c.args.levels s.out
    c.put_next.new.self.out s.fault c.in-Err.fault (sym c.is_some.ensures ∙ c.if-is_some.false) c.in-Err.ensures.put
