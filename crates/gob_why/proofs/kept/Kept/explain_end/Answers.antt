-- The text of the item, or none.
use Rattle.std.proofs.Common.{[]}
use Rattle.gob_types.specs.Defined.{types}
use Rattle.gob_explain.specs.Machine.Putting.{puts_nothing}
use Rattle.gob_why.proofs.KeepingLaws.{explains_chosen, explains_none, no_end}
use Rattle.gob_why.proofs.kept.Kept.explain_end.Goals as goal

pub returns-then-not-is_chosen-clause-put : goal.returns-then-not-is_chosen-clause-put
returns-then-not-is_chosen-clause-put g c =
    let k = c.args.self.now in record {
      text = [];
      put = puts_nothing g.O.TextOut.puts g.met.O.TextOut.nothing c.args.lines.now.out c.args.lines.now.fault;
      holds = explains_none k.explained (types c.args.table.now) k.begin _ c.args.size
          (rw c.if-not-is_chosen.true at c.is_chosen.ensures);
    }

pub returns-in_err-keep-clause-put : goal.returns-in_err-keep-clause-put
returns-in_err-keep-clause-put g c =
    let k = c.args.self.now in record {
      text = [];
      put = puts_nothing g.O.TextOut.puts g.met.O.TextOut.nothing c.args.lines.now.out c.args.lines.now.fault;
      holds = no_end k.explained (types c.args.table.now) k.begin _ c.args.size _ c.from_residual.result
          c.from_residual.ensures.1;
    }

pub returns-clause-put : goal.returns-clause-put
returns-clause-put g c =
    let k = c.args.self.now in
    let p = rw c.as_slice.ensures.value at c.push_first_bytes.ensures in record {
      text = p.text;
      put = p.put;
      holds = explains_chosen k.explained (types c.args.table.now) k.begin _ c.args.size _ _ _ p.text
          (rw c.if-not-is_chosen.false at c.is_chosen.ensures) c.in_ok-keep.ensures.begin c.in_ok-keep.ensures.item
          p.holds;
    }
