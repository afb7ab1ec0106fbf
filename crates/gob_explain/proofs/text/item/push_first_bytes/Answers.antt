-- What is left stands in a line of its own.
use Rattle.std.proofs.Common.{◌++◌, arith}
use Rattle.gob_types.specs.Defined.{types}
use Rattle.gob_explain.specs.Machine.Putting.{puts_both}
use Rattle.gob_explain.proofs.ItemLaws.{all_shown, rest_is, rest_shown}
use Rattle.gob_explain.proofs.text.item.push_first_bytes.Goals as goal

pub returns-then-reached-bytes : goal.returns-then-reached-bytes
returns-then-reached-bytes g c =
    let bytes = c.args.bytes.now in
    let place = c.push_item-reached.result.place in
    let p = c.push_item-reached.ensures.put in
    let q = c.put_line.ensures in
    let s = c.args.lines.now in
    let first = c.push_item-reached.new.lines in
    let last = c.put_line.new.self in
    let rest = rest_is bytes place (c.part-rest.ensures c.push_item-reached.ensures.inside (omega arith)) in record {
      text = p.text ++ q.text;
      put = puts_both g.O.TextOut.puts g.met.O.TextOut.joined g.met.O.TextOut.cut s.out first.out last.out s.fault
          first.fault last.fault p.text q.text p.put q.put;
      holds = rest_shown (types c.args.table.now) c.args.offset place _ bytes _ p.text q.text c.if-reached-bytes.true
          (omega (arith, c.saturating_add-place.ensures)) rest p.holds q.holds;
    }

pub returns-else-reached-bytes : goal.returns-else-reached-bytes
returns-else-reached-bytes g c =
    let p = c.push_item-reached.ensures.put in record {
      text = p.text;
      put = p.put;
      holds = all_shown (types c.args.table.now) c.args.offset c.push_item-reached.result.place c.args.bytes.now p.text
          c.if-reached-bytes.false c.push_item-reached.ensures.inside p.holds;
    }
