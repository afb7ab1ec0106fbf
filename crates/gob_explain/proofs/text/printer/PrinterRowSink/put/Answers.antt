-- One row was told.
use Rattle.std.proofs.Common.{ap}
use Rattle.gob_types.specs.Defined.{types}
use Rattle.gob_explain.proofs.LineLaws.{tells_one}
use Rattle.gob_explain.proofs.text.printer.PrinterRowSink.put.Goals as goal

pub returns : goal.returns
returns g c = λ way.
    let p = c.put_row.ensures.told in (
      c.put_row.ensures.same,
      record {
        types = ap (λ x. types x.now) c.put_row.ensures.table;
        offset_is = c.put_row.ensures.offset;
        bytes = ap (λ x. x.now) c.put_row.ensures.body;
        more = p.text;
        put = p.put;
        tells = tells_one p.holds;
      },
    )
