-- The row goes on in the line under way, or begins one.
use Rattle.std.proofs.Common.{◌≡◌, ap}
use Rattle.gob_types.specs.Defined.{types}
use Rattle.gob_explain.specs.declared.text.printer.Line.{Line}
use Rattle.gob_explain.proofs.LineLaws.{goes_from, row_joined}
use Rattle.gob_explain.proofs.text.printer.Printer.go_on.Goals as goal
use Rattle.gob_explain.proofs.text.printer.Printer.go_on.Goals.{then-eq, else-eq}

pub returns-clause-printed : goal.returns-clause-printed
returns-clause-printed g c = λ text rows order inside fits h.
    let m = c.if-eq.line in
    let begin : m.begin ≡ c.unwrap_or-line.result.begin = elim c.if-eq.branch [
      | then-eq w ↦ ap (λ (l : Line). l.begin) w.line-is
      | else-eq w ↦ ap (λ (l : Line). l.begin) w.line-is
    ] in
    let depth : m.depth ≡ c.unwrap_or-line.result.depth = elim c.if-eq.branch [
      | then-eq w ↦ ap (λ (l : Line). l.depth) w.line-is
      | else-eq w ↦ ap (λ (l : Line). l.depth) w.line-is
    ] in
    let end : m.end ≡ c.args.row.now.end = elim c.if-eq.branch [
      | then-eq w ↦ ap (λ (l : Line). l.end) w.line-is
      | else-eq w ↦ ap (λ (l : Line). l.end) w.line-is
    ] in
    let from = goes_from c.args.self.now.line c.of.result c.args.row.now m c.of.ensures.begin c.of.ensures.depth
    (rw c.unwrap_or-line.ensures at begin) (rw c.unwrap_or-line.ensures at depth) in
    row_joined (types c.args.self.now.table.now) c.args.self.now.offset c.args.self.now.body.now text
    c.args.self.now.line rows c.args.row.now m from end order inside fits h
