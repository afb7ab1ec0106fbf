-- The item ends, behind the count of its type.
use Rattle.std.proofs.Common.{[], refl}
use Rattle.gob_types.specs.Defined.{types}
use Rattle.gob_explain.specs.Machine.Putting.{puts_nothing}
use Rattle.gob_why.proofs.KeepingLaws.{lost_end}
use Rattle.gob_why.proofs.kept.Kept.pass_value.Goals as goal

pub returns-in_err-count_value-clause-put : goal.returns-in_err-count_value-clause-put
returns-in_err-count_value-clause-put g c =
    let k = c.args.self.now in record {
      text = [];
      put = puts_nothing g.O.TextOut.puts g.met.O.TextOut.nothing c.args.lines.now.out c.args.lines.now.fault;
      holds = lost_end k.explained (types c.args.table.now) k.item.items k.begin c.args.bytes.now _ _ [] _
          c.from_residual.result c.from_residual.ensures.1 refl;
    }

pub returns-clause-put : goal.returns-clause-put
returns-clause-put g c =
    rw (c.in_ok-count_value.ensures.item, c.in_ok-count_value.ensures.begin, c.in_ok-count_value.ensures.explained)
    at c.end_item.ensures.put
