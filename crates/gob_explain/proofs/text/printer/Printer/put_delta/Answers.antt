-- A delta ends the line under way.
use Rattle.std.proofs.Common.{ap, arith, subst, sym}
use Rattle.gob_types.specs.Defined.{types}
use Rattle.gob_explain.specs.Putting.{PutsOn}
use Rattle.gob_explain.proofs.LineLaws.{alone_delta, begun_told, ends_delta, opens_delta}
use Rattle.gob_explain.proofs.text.printer.Printer.put_delta.Goals as goal

pub returns-then-row-eq0-clause-told : goal.returns-then-row-eq0-clause-told
returns-then-row-eq0-clause-told g c = λ is.
    let row = c.args.row.now in
    c.put_alone.ensures.told (alone_delta row.what is)
    (ends_delta (types c.args.self.now.table.now) row is (omega (arith, c.if-row-eq0.true)))

pub returns-clause-told : goal.returns-clause-told
returns-clause-told g c = λ is.
    let s = c.args.self.now in
    let e = c.end_line.new.self in
    let n = c.go_on.new.self in
    let row = c.args.row.now in
    let p = c.end_line.ensures.ended in record {
      text = p.text;
      put = subst (λ l. PutsOn g.O.TextOut.puts s.lines.now.out s.lines.now.fault l.now.out l.now.fault p.text)
          (sym c.go_on.ensures.lines) p.put;
      holds = begun_told s.line e.line n.line row c.go_on.ensures.under_way.0 p.text
          (ap (λ x. types x.now) c.end_line.ensures.table) c.end_line.ensures.offset
          (ap (λ x. x.now) c.end_line.ensures.body) c.end_line.ensures.none c.go_on.ensures.under_way.1
          (alone_delta row.what is)
          (opens_delta (types s.table.now) row is (omega (arith, c.if-row-eq0.false))) p.holds
          c.go_on.ensures.printed;
    }
