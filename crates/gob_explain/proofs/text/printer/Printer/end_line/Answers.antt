-- The line under way behind the others.
use Rattle.std.proofs.Common.{◌∙◌, sym}
use Rattle.gob_types.specs.Defined.{types}
use Rattle.gob_explain.proofs.LineLaws.{line_ends}
use Rattle.gob_explain.proofs.text.printer.Printer.end_line.Goals as goal

pub returns-clause-ended : goal.returns-clause-ended
returns-clause-ended g c =
    let s = c.args.self.now in
    let p = c.push.ensures.added in record {
      text = p.text;
      put = p.put;
      holds = line_ends (types s.table.now) s.offset s.body.now s.line c.in-Some.line p.text
          (sym c.take.ensures.value ∙ c.in-Some.is) p.holds;
    }
