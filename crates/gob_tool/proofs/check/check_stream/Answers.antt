-- The line goes out whole, or a prefix of it; without one nothing does.
use Rattle.std.proofs.Common.{◌∙◌}
use Rattle.std.specs.Io.KnownBytes.{Appends}
use Rattle.std.proofs.KnownBytes.{Appends-nil}
use Rattle.gob_stream.specs.Calls.Ends.{reader_of, writer_of}
use Rattle.gob_tool.specs.Checking.{ChecksIn, is_accepted, is_cut, is_stopped, tally_line, definitions_behind}
use Rattle.gob_tool.specs.Fault.{writing_fault}
use Rattle.gob_tool.specs.Showing.{AppendsPrefix}
use Rattle.gob_tool.specs.declared.fault.ToolFault.TheVariants as fault
use Rattle.gob_tool.proofs.CheckLaws.{written_as}
use Rattle.gob_tool.proofs.EndLaws.{at_error, sent_prefix}
use Rattle.gob_tool.proofs.check.check_stream.Goals as goal

pub returns-in_err-tally-clause-checked : goal.returns-in_err-tally-clause-checked
returns-in_err-tally-clause-checked g c = λ bytes known.
    let d = g.S.Steps.stepping in
    let out = g.W.Write.contents (writer_of c.args.output.now) in
    let next = g.R.Read.remaining (reader_of c.count_stream.new.input) in
    at_error (λ r. ChecksIn d.grammar definitions_behind (d.within c.args.limits) bytes next out out r)
    c.from_residual.result c.in_err-tally.field-0.0 c.from_residual.ensures.1
    (is_stopped (c.in_err-tally.ensures.counted bytes known) (Appends-nil out))

pub returns-in_err-line-clause-checked : goal.returns-in_err-line-clause-checked
returns-in_err-line-clause-checked g c = λ bytes known.
    let d = g.S.Steps.stepping in
    let out = g.W.Write.contents (writer_of c.args.output.now) in
    let next = g.R.Read.remaining (reader_of c.count_stream.new.input) in
    at_error (λ r. ChecksIn d.grammar definitions_behind (d.within c.args.limits) bytes next out out r)
    c.from_residual-in_err-line.result fault.Memory c.from_residual-in_err-line.ensures.1
    (is_stopped tt (Appends-nil out))

pub returns-in_err-send_all-clause-checked : goal.returns-in_err-send_all-clause-checked
returns-in_err-send_all-clause-checked g c = λ bytes known.
    let d = g.S.Steps.stepping in
    let old = g.W.Write.contents (writer_of c.args.output.now) in
    let new = g.W.Write.contents (writer_of c.send_all.new.self) in
    let next = g.R.Read.remaining (reader_of c.count_stream.new.input) in
    at_error (λ r. ChecksIn d.grammar definitions_behind (d.within c.args.limits) bytes next old new r)
    c.from_residual-in_err-send_all.result (writing_fault c.in_err-send_all.field-0.0)
    c.from_residual-in_err-send_all.ensures.1
    (rw c.in_err-send_all.ensures.fault (is_cut (written_as d.grammar (AppendsPrefix old new)
    (tally_line c.in_ok-tally.tally) c.as_bytes.result.now (c.in_ok-tally.ensures.counted bytes known)
    (c.as_bytes.ensures.value ∙ c.in_ok-line.ensures)
    (sent_prefix old new c.as_bytes.result.now c.in_err-send_all.ensures.prefix))))

pub returns-clause-checked : goal.returns-clause-checked
returns-clause-checked g c = λ bytes known.
    let old = g.W.Write.contents (writer_of c.args.output.now) in
    let new = g.W.Write.contents (writer_of c.send_all.new.self) in
    is_accepted (written_as g.S.Steps.stepping.grammar (Appends old new) (tally_line c.in_ok-tally.tally)
    c.as_bytes.result.now (c.in_ok-tally.ensures.counted bytes known) (c.as_bytes.ensures.value ∙ c.in_ok-line.ensures)
    c.in_ok-send_all.ensures.ok)
