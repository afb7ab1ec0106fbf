-- A view allows no deeper values than the run takes.
use Rattle.std.proofs.Common.{subst, sym}
use Rattle.gob_stream.specs.Calls.Ends.{reader_of, writer_of}
use Rattle.gob_views.specs.Running.{LinesAnswers, view_limits}
use Rattle.gob_views.proofs.RunLaws.{within_view}
use Rattle.gob_views.proofs.run.print_values.Goals as goal

pub returns-then-view-clause-shows : goal.returns-then-view-clause-shows
returns-then-view-clause-shows g c = λ bytes known.
    let view = c.args.view.now in
    let lines = c.lines_of.result in
    let now = g.R.Read.remaining (reader_of c.run_each.new.input) in
    let old = g.W.Write.contents (writer_of c.args.output.now) in
    let new = g.W.Write.contents (writer_of c.run_each.new.output) in
    let printed = rw (c.limits_of.ensures, within_view view) at c.run_each.ensures.printed in (
      lines,
      c.lines_of.ensures,
      subst (λ e. LinesAnswers e lines (view_limits view) bytes now old new c.run_each.result) (sym c.if-view.true)
          (printed bytes known),
    )

pub returns-clause-shows : goal.returns-clause-shows
returns-clause-shows g c = λ bytes known.
    let view = c.args.view.now in
    let lines = c.lines_of-2.result in
    let now = g.R.Read.remaining (reader_of c.run_values.new.input) in
    let old = g.W.Write.contents (writer_of c.args.output.now) in
    let new = g.W.Write.contents (writer_of c.run_values.new.output) in
    let printed = rw (c.limits_of-2.ensures, within_view view) at c.run_values.ensures.printed in (
      lines,
      c.lines_of-2.ensures,
      subst (λ e. LinesAnswers e lines (view_limits view) bytes now old new c.run_values.result)
          (sym c.if-view.false) (printed bytes known),
    )
