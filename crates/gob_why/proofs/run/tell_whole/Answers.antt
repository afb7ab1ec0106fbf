-- The text went out, or a prefix of it.
use Rattle.std.proofs.Common.{subst, string_bytes}
use Rattle.std.specs.Io.KnownBytes.{Appends}
use Rattle.std.proofs.KnownBytes.{Appends-nil}
use Rattle.gob_stream.specs.Calls.Ends.{writer_of}
use Rattle.gob_stream.specs.Calls.Writing.{SentPrefix}
use Rattle.gob_tool.specs.Fault.{writing_fault}
use Rattle.gob_tool.specs.Checking.{tally_line}
use Rattle.gob_tool.specs.declared.fault.ToolFault.TheVariants as fault
use Rattle.gob_tool.proofs.EndLaws.{at_error}
use Rattle.gob_why.specs.Why.{Tells}
use Rattle.gob_why.proofs.WhyLaws.{cut, sent}
use Rattle.gob_why.proofs.run.tell_whole.Goals as goal

pub returns-in_err-text-clause-told : goal.returns-in_err-text-clause-told
returns-in_err-text-clause-told g c =
    let out = g.W.Write.contents (writer_of c.args.output.now) in
    at_error (λ r. Tells (tally_line c.args.tally) out out r) c.from_residual.result fault.Memory
    c.from_residual.ensures.1 (Appends-nil out)

pub returns-in_err-send_all-clause-told : goal.returns-in_err-send_all-clause-told
returns-in_err-send_all-clause-told g c =
    let old = g.W.Write.contents (writer_of c.args.output.now) in
    let new = g.W.Write.contents (writer_of c.send_all.new.self) in
    let line = tally_line c.args.tally in
    let prefix = subst (λ l. SentPrefix l old new) c.as_bytes.ensures.value c.in_err-send_all.ensures.prefix in
    at_error (λ r. Tells line old new r) c.from_residual-in_err-send_all.result
    (writing_fault c.in_err-send_all.field-0.0) c.from_residual-in_err-send_all.ensures.1
    (rw c.in_err-send_all.ensures.fault (cut line (string_bytes c.in_ok-text.text) old new c.in_ok-text.ensures prefix))

pub returns-clause-told : goal.returns-clause-told
returns-clause-told g c =
    let old = g.W.Write.contents (writer_of c.args.output.now) in
    let new = g.W.Write.contents (writer_of c.send_all.new.self) in
    sent (tally_line c.args.tally) (string_bytes c.in_ok-text.text) old new c.in_ok-text.ensures
    (subst (λ l. Appends old new l) c.as_bytes.ensures.value c.in_ok-send_all.ensures.ok)
