-- The line stays open, or ends with the row.
use Rattle.std.proofs.Common.{[], subst, sym}
use Rattle.gob_types.specs.Defined.{types}
use Rattle.gob_explain.specs.Machine.Putting.{puts_nothing}
use Rattle.gob_explain.specs.Putting.{PutsOn}
use Rattle.gob_explain.proofs.LineLaws.{behind_first, ends_first, open_told, opens_first}
use Rattle.gob_explain.proofs.text.printer.Printer.put_first.Goals as goal

pub returns-then-goes_on-clause-told : goal.returns-then-goes_on-clause-told
returns-then-goes_on-clause-told g c = λ is.
    let s = c.args.self.now in
    let row = c.args.row.now in
    let T = types s.table.now in record {
      text = [];
      put = subst (λ l. PutsOn g.O.TextOut.puts s.lines.now.out s.lines.now.fault l.now.out l.now.fault [])
          (sym c.go_on.ensures.lines)
          (puts_nothing g.O.TextOut.puts g.met.O.TextOut.nothing s.lines.now.out s.lines.now.fault);
      holds = open_told s.line c.go_on.new.self.line row c.go_on.ensures.under_way.0 c.go_on.ensures.under_way.1
          (behind_first row.what is) (opens_first T row is (rw c.if-goes_on.true at c.goes_on.ensures))
          c.go_on.ensures.printed;
    }

pub returns-clause-told : goal.returns-clause-told
returns-clause-told g c = λ is.
    let row = c.args.row.now in
    c.put_last.ensures.told (behind_first row.what is)
    (ends_first (types c.args.self.now.table.now) row is (rw c.if-goes_on.false at c.goes_on.ensures))
