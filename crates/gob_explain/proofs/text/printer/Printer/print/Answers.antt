-- What was told of the rows, and the end of the line under way.
use Rattle.std.proofs.Common.{◌++◌, ◌∙◌, Option, subst}
use Rattle.gob_types.specs.Defined.{types}
use Rattle.gob_explain.specs.Machine.Printing.{TellsRows, ends_as}
use Rattle.gob_explain.specs.Machine.Putting.{puts_both}
use Rattle.gob_explain.specs.declared.text.printer.Line.{Line}
use Rattle.gob_explain.proofs.ItemLaws.{body_shown}
use Rattle.gob_explain.proofs.text.printer.Printer.print.Goals as goal

pub returns-clause-same : goal.returns-clause-same
returns-clause-same g c = c.end_line.ensures.same ∙ c.in-Ok.ensures.2.told.0

pub returns-clause-put : goal.returns-clause-put
returns-clause-put g c =
    let walked = c.in-Ok.ensures in
    let p = walked.2.told.1 in
    let q = c.end_line.ensures.ended in
    let s = c.args.self.now in
    let m = c.walk_body.new.out in
    let n = c.end_line.new.self in
    let T = types s.table.now in record {
      text = p.more ++ q.text;
      put = puts_both g.O.TextOut.puts g.met.O.TextOut.joined g.met.O.TextOut.cut s.lines.now.out m.lines.now.out
          n.lines.now.out s.lines.now.fault m.lines.now.fault n.lines.now.fault p.more q.text p.put q.put;
      holds = body_shown T c.args.id s.offset s.body.now m.line p.more q.text c.in-Ok.walked.place walked.2.rows
          walked.0 c.in-Ok.walked.whole walked.2.lead walked.3
          (subst (λ (l : Option Line). TellsRows T s.offset s.body.now l m.line walked.2.rows p.more) c.requires
          p.tells)
          (ends_as m.line q.text p.types p.offset_is p.bytes q.holds);
    }
