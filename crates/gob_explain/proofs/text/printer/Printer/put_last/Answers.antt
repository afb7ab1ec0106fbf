-- The row goes on in the line, which ends.
use Rattle.std.proofs.Common.{ap, subst}
use Rattle.gob_types.specs.Defined.{types}
use Rattle.gob_explain.specs.Putting.{PutsOn}
use Rattle.gob_explain.proofs.LineLaws.{last_told}
use Rattle.gob_explain.proofs.text.printer.Printer.put_last.Goals as goal

pub returns-clause-told : goal.returns-clause-told
returns-clause-told g c = λ behind closed.
    let s = c.args.self.now in
    let m = c.go_on.new.self in
    let n = c.end_line.new.self in
    let p = c.end_line.ensures.ended in record {
      text = p.text;
      put = subst (λ l. PutsOn g.O.TextOut.puts l.now.out l.now.fault n.lines.now.out n.lines.now.fault p.text)
          c.go_on.ensures.lines p.put;
      holds = last_told s.line m.line n.line c.args.row.now p.text (ap (λ x. types x.now) c.go_on.ensures.table)
          c.go_on.ensures.offset (ap (λ x. x.now) c.go_on.ensures.body) c.end_line.ensures.none behind closed
          c.go_on.ensures.printed p.holds;
    }
