-- A row on a line of its own.
use Rattle.gob_types.specs.Defined.{types}
use Rattle.gob_explain.proofs.LineLaws.{row_alone}
use Rattle.gob_explain.proofs.text.printer.Printer.push_row.Goals as goal

pub returns-clause-printed : goal.returns-clause-printed
returns-clause-printed g c =
    let s = c.args.self.now in
    let p = c.push.ensures.added in record {
      text = p.text;
      put = p.put;
      holds = row_alone (types s.table.now) s.offset s.body.now c.args.row.now c.of.result p.text c.of.ensures.begin
          c.of.ensures.end c.of.ensures.depth p.holds;
    }
