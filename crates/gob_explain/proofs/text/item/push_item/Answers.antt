-- The line of the count, that of the type number, and those of the body.
use Rattle.std.proofs.Common.{◌≤◌, ◌++◌, [], arith, subst, sym}
use Rattle.gob_types.specs.Defined.{types}
use Rattle.gob_explain.specs.Items.{ShowsItemTo}
use Rattle.gob_explain.specs.Machine.Putting.{puts_both, puts_nothing}
use Rattle.gob_explain.proofs.ItemLaws.{count_lines, item_lines, no_item_lines, rest_is}
use Rattle.gob_explain.proofs.text.item.push_item.Goals as goal

pub returns-in_default-clause-put : goal.returns-in_default-clause-put
returns-in_default-clause-put g c =
    let T = types c.args.table.now in record {
      text = [];
      put = puts_nothing g.O.TextOut.puts g.met.O.TextOut.nothing c.args.lines.now.out c.args.lines.now.fault;
      holds = subst (λ n. ShowsItemTo T c.args.offset c.args.bytes.now n []) (sym c.at.ensures)
          (no_item_lines T c.args.offset c.args.bytes.now (c.uint_at.ensures.none c.in_default.is));
    }

pub returns-in_default-uint_at-clause-put : goal.returns-in_default-uint_at-clause-put
returns-in_default-uint_at-clause-put g c =
    let T = types c.args.table.now in
    let u = c.in-Some.ensures.found in
    let p = rw (c.part.ensures (omega arith) (omega (arith, u.inside))) at c.put_line.ensures in record {
      text = p.text;
      put = p.put;
      holds = subst (λ n. ShowsItemTo T c.args.offset c.args.bytes.now n p.text) (sym c.at-in_default-uint_at.ensures)
          (count_lines T c.args.offset c.in-Some.count c.in-Some.begin c.args.bytes.now p.text c.ranges.offset.fits u
          (c.uint_at-2.ensures.none c.in_default-uint_at.is) p.holds);
    }

pub returns-clause-put : goal.returns-clause-put
returns-clause-put g c =
    let bytes = c.args.bytes.now in
    let u = c.in-Some.ensures.found in
    let v = c.in-Some-uint_at.ensures.found in
    let order : c.in-Some.begin ≤ c.in-Some-uint_at.body = omega (arith, v.order) in
    let p = rw (c.part.ensures (omega arith) (omega (arith, u.inside))) at c.put_line.ensures in
    let q = rw (c.part-2.ensures order v.inside) at c.put_line-2.ensures in
    let r = c.push_body-walked.ensures.put in
    let rest = c.part-rest.ensures v.inside (omega arith) in
    let s = c.args.lines.now in
    let first = c.put_line.new.self in
    let second = c.put_line-2.new.self in
    let last = c.push_body-walked.new.lines in
    let both = puts_both g.O.TextOut.puts g.met.O.TextOut.joined g.met.O.TextOut.cut in record {
      text = (p.text ++ q.text) ++ r.text;
      put = both s.out second.out last.out s.fault second.fault last.fault (p.text ++ q.text) r.text
          (both s.out first.out second.out s.fault first.fault second.fault p.text q.text p.put q.put) r.put;
      holds = item_lines (types c.args.table.now) c.body_type-id.result c.args.offset c.in-Some.count
          c.in-Some-uint_at.number c.in-Some.begin c.in-Some-uint_at.body c.saturating_add-place.result
          c.saturating_add-place-2.result c.push_body-walked.result.place bytes c.part-rest.result.now p.text q.text
          r.text c.ranges.offset.fits u v (c.body_type-id.ensures _ v.spelled)
          (omega (arith, c.saturating_add-place.ensures))
          (omega (arith, c.saturating_add-place-2.ensures)) (rest_is bytes c.in-Some-uint_at.body rest) p.holds
          q.holds r.holds;
    }
