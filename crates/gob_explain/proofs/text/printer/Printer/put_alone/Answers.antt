-- The row stands in a line of its own.
use Rattle.std.proofs.Common.{◌++◌, ◌∙◌, ap}
use Rattle.gob_types.specs.Defined.{types}
use Rattle.gob_explain.specs.Machine.Putting.{puts_both}
use Rattle.gob_explain.proofs.LineLaws.{alone_told}
use Rattle.gob_explain.proofs.text.printer.Printer.put_alone.Goals as goal

pub returns-clause-told : goal.returns-clause-told
returns-clause-told g c = λ alone closed.
    let s = c.args.self.now in
    let e = c.end_line.new.self in
    let n = c.push_row.new.self in
    let p = c.end_line.ensures.ended in
    let q = c.push_row.ensures.printed in record {
      text = p.text ++ q.text;
      put = puts_both g.O.TextOut.puts g.met.O.TextOut.joined g.met.O.TextOut.cut s.lines.now.out e.lines.now.out
          n.lines.now.out s.lines.now.fault e.lines.now.fault n.lines.now.fault p.text q.text p.put q.put;
      holds = alone_told s.line n.line c.args.row.now p.text q.text (ap (λ x. types x.now) c.end_line.ensures.table)
          c.end_line.ensures.offset (ap (λ x. x.now) c.end_line.ensures.body)
          (c.push_row.ensures.under_way ∙ c.end_line.ensures.none) alone closed p.holds q.holds;
    }
