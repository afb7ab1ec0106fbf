use Rattle.std.proofs.Common.{subst, Err}
use Rattle.std.proofs.KnownBytes.{Appends-nil}
use Rattle.gob_stream.specs.Bounds.{within_trees}
use Rattle.gob_stream.specs.Calls.Ends.{writer_of}
use Rattle.gob_write.specs.Exact.{exact_lines}
use Rattle.gob_write.specs.Grammar.{RunAnswers}
use Rattle.gob_write.specs.Shown.{filled_lines}
use Rattle.gob_write.specs.declared.fault.LinesFault.TheVariants as fault
use Rattle.gob_write.proofs.ExactLaws.{exact_answers}
use Rattle.gob_write.proofs.RunLaws.{err_result}
use Rattle.gob_write.proofs.ShownRunLaws.{none_written}
use Rattle.gob_write.proofs.shown.run_write.Goals as goal

pub returns-in_err-writer-clause-written : goal.returns-in_err-writer-clause-written
returns-in_err-writer-clause-written g c = λ bytes e.
    let L = within_trees c.args.limits in
    let lines = c.args.lines in
    let old = g.W.Write.contents (writer_of c.args.output.now) in
    err_result (RunAnswers (filled_lines lines.holds L) lines.most bytes old old) c.from_residual.result fault.Memory
    c.from_residual.ensures.1 (none_written lines.holds L lines.most bytes old)

pub returns-in_err-writer-clause-exact : goal.returns-in_err-writer-clause-exact
returns-in_err-writer-clause-exact g c = λ bytes e nil.
    let L = within_trees c.args.limits in
    let most = c.args.lines.most in
    let old = g.W.Write.contents (writer_of c.args.output.now) in
    err_result (RunAnswers (exact_lines L) most bytes old old) c.from_residual.result fault.Memory
    c.from_residual.ensures.1 (exact_answers L most bytes old old (Err fault.Memory) (none_written _ L most bytes old))

pub returns-clause-written : goal.returns-clause-written
returns-clause-written g c = λ bytes e.
    let L = within_trees c.args.limits in
    c.end_lines.ensures.shown c.args.lines.holds L c.args.lines.most bytes _
    (c.write_shown-answer.ensures.written _ L _ bytes c.in_ok-writer.ensures (Appends-nil _) e)

pub returns-clause-exact : goal.returns-clause-exact
returns-clause-exact g c = λ bytes e nil.
    let L = within_trees c.args.limits in
    let most = c.args.lines.most in
    let old = g.W.Write.contents (writer_of c.args.output.now) in
    let new = g.W.Write.contents (writer_of c.end_lines.new.output) in
    let r = c.end_lines.result in
    exact_answers L most bytes old new r (subst (λ H. RunAnswers (filled_lines H L) most bytes old new r) nil
    (c.end_lines.ensures.shown c.args.lines.holds L most bytes _
    (c.write_shown-answer.ensures.written _ L _ bytes c.in_ok-writer.ensures (Appends-nil _) e)))

pub returns-clause-reads : goal.returns-clause-reads
returns-clause-reads g c = c.end_lines.ensures.reads _ _ c.write_shown-answer.ensures.reads

pub returns-clause-writes : goal.returns-clause-writes
returns-clause-writes g c = c.end_lines.ensures.writes _ c.write_shown-answer.ensures.writes
