-- A view allows no deeper values than the run of its command takes.
use Rattle.std.proofs.Common.{sym, subst}
use Rattle.gob_stream.specs.Calls.Ends.{failed_writes, reader_of, writer_of}
use Rattle.gob_views.specs.Running.{CommandAnswers, version_line}
use Rattle.gob_views.proofs.RunLaws.{within_view}
use Rattle.gob_views.proofs.SendLaws.{sends_ended}
use Rattle.gob_views.proofs.run.run_command.Goals as goal

pub returns-in-Values-clause-shows : goal.returns-in-Values-clause-shows
returns-in-Values-clause-shows g c = λ bytes known.
    let old = g.W.Write.contents (writer_of c.args.output.now) in
    let new = g.W.Write.contents (writer_of c.print_values.new.output) in
    let next = g.R.Read.remaining (reader_of c.print_values.new.input) in
    subst (λ x. CommandAnswers x c.args.view.now bytes next old new c.print_values.result) (sym c.in-Values.is)
    (c.print_values.ensures.shows bytes known)

pub returns-in-Types-clause-shows : goal.returns-in-Types-clause-shows
returns-in-Types-clause-shows g c = λ bytes known.
    let written = rw (c.limits_of.ensures, within_view c.args.view.now, c.form_of.ensures) at
    c.run_types.ensures.written in
    rw c.in-Types.is (written bytes known)

pub returns-in-Why-clause-shows : goal.returns-in-Why-clause-shows
returns-in-Why-clause-shows g c = λ bytes known.
    let told = rw (c.limits_of-in-Why.ensures, within_view c.args.view.now) at c.run_why.ensures.told in
    rw c.in-Why.is (told bytes known)

pub returns-in-CheckGo-clause-shows : goal.returns-in-CheckGo-clause-shows
returns-in-CheckGo-clause-shows g c = λ bytes known.
    let checked = rw (c.limits_of-in-CheckGo.ensures, within_view c.args.view.now) at c.run_check_go.ensures.checked in
    rw c.in-CheckGo.is (checked bytes known)

pub returns-in-Verify-clause-shows : goal.returns-in-Verify-clause-shows
returns-in-Verify-clause-shows g c = λ bytes known.
    let checked = rw (c.limits_of-in-Verify.ensures, within_view c.args.view.now) at
    c.run_check_go-in-Verify.ensures.checked in
    rw c.in-Verify.is (checked bytes known)

pub returns-in-ShowGo-clause-shows : goal.returns-in-ShowGo-clause-shows
returns-in-ShowGo-clause-shows g c = λ bytes known.
    let shown = rw (c.limits_of-in-ShowGo.ensures, within_view c.args.view.now) at c.run_show_go.ensures.shown in
    rw c.in-ShowGo.is (shown bytes known)

pub returns-in-RewriteGo-clause-shows : goal.returns-in-RewriteGo-clause-shows
returns-in-RewriteGo-clause-shows g c = λ bytes known.
    let rewritten = rw (c.limits_of-in-RewriteGo.ensures, within_view c.args.view.now) at
    c.run_rewrite_go.ensures.rewritten in
    rw c.in-RewriteGo.is (rewritten bytes known)

pub returns-in-Salvage-clause-shows : goal.returns-in-Salvage-clause-shows
returns-in-Salvage-clause-shows g c = λ bytes known.
    let kept = rw (c.limits_of-in-Salvage.ensures, within_view c.args.view.now) at c.run_salvage.ensures.kept in
    rw c.in-Salvage.is (c.run_salvage.new.told, kept bytes known)

pub returns-in-Salvage-clause-told : goal.returns-in-Salvage-clause-told
returns-in-Salvage-clause-told g c = λ bytes known is.
    let kept = rw (c.limits_of-in-Salvage.ensures, within_view c.args.view.now) at c.run_salvage.ensures.kept in
    kept bytes known

pub returns-in-Version-clause-shows : goal.returns-in-Version-clause-shows
returns-in-Version-clause-shows g c = λ bytes known.
    let old = g.W.Write.contents (writer_of c.args.output.now) in
    let mid = g.W.Write.contents (writer_of c.write_version.new.output) in
    let new = g.W.Write.contents (writer_of c.end_run-in-Version.new.output) in
    let view = c.args.view.now in
    subst (λ x. CommandAnswers x view bytes (g.R.Read.remaining (reader_of c.args.input.now)) old new
    c.end_run-in-Version.result) (sym c.in-Version.is)
    (sends_ended old mid new version_line c.write_version.result c.end_run-in-Version.result
    c.end_run-in-Version.ensures.bytes c.end_run-in-Version.ensures.ends c.write_version.ensures.sent)

pub returns-in-Version-clause-writes : goal.returns-in-Version-clause-writes
returns-in-Version-clause-writes g c =
    c.end_run-in-Version.ensures.writes (failed_writes c.args.output.now) c.write_version.ensures.writes

pub returns-in-Explain-clause-shows : goal.returns-in-Explain-clause-shows
returns-in-Explain-clause-shows g c = λ bytes known.
    let explained = rw (c.limits_of-in-Explain.ensures, within_view c.args.view.now, c.explained_of.ensures) at
    c.run_explain.ensures.explained in
    rw c.in-Explain.is (explained bytes known)

pub returns-in-Version-clause-flushed : goal.returns-in-Version-clause-flushed
returns-in-Version-clause-flushed g c =
    c.end_run-in-Version.ensures.flushed (failed_writes c.args.output.now) c.write_version.ensures.writes
