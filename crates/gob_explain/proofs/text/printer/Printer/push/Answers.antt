-- The line of these bytes was put out.
use Rattle.std.proofs.Common.{arith}
use Rattle.gob_explain.proofs.PutLaws.{some_line_as}
use Rattle.gob_explain.proofs.text.printer.Printer.push.Goals as goal

pub returns-clause-added : goal.returns-clause-added
returns-clause-added g c =
    let p = c.put_line.ensures in record {
      text = p.text;
      put = p.put;
      holds = λ order inside. some_line_as (omega (arith, c.saturating_add-offset.ensures))
          (c.bytes-bytes.ensures order inside) (omega (arith, c.saturating_add-levels.ensures)) p.holds;
    }
