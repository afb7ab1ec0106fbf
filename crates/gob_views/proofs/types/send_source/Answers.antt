-- The source went out, or a prefix of it.
use Rattle.std.proofs.Common.{◌∙◌, subst}
use Rattle.std.specs.Io.KnownBytes.{Appends}
use Rattle.gob_types.specs.Defined.{types}
use Rattle.gob_stream.specs.Calls.Ends.{writer_of}
use Rattle.gob_stream.specs.Calls.Writing.{SentPrefix}
use Rattle.gob_tool.specs.Fault.{writing_fault}
use Rattle.gob_tool.proofs.EndLaws.{at_error, sent_prefix}
use Rattle.gob_views.specs.Machine.Gathered.{gathered_text}
use Rattle.gob_views.specs.Sending.{SendsText}
use Rattle.gob_views.proofs.types.send_source.Goals as goal

pub returns-in_err-send_all-clause-sent : goal.returns-in_err-send_all-clause-sent
returns-in_err-send_all-clause-sent g c =
    let old = g.W.Write.contents (writer_of c.args.output.now) in
    let new = g.W.Write.contents (writer_of c.send_all.new.self) in
    let text = gathered_text c.args.form (types c.args.table.now) c.args.gathered.now in
    at_error (λ r. SendsText old new text r) c.from_residual-in_err-send_all.result
    (writing_fault c.in_err-send_all.field-0.0) c.from_residual-in_err-send_all.ensures.1
    (rw c.in_err-send_all.ensures.fault (sent_prefix old new text (subst (λ l. SentPrefix l old new)
    (c.deref.ensures.value ∙ c.in_ok-source.ensures) c.in_err-send_all.ensures.prefix)))

pub returns-clause-sent : goal.returns-clause-sent
returns-clause-sent g c =
    let old = g.W.Write.contents (writer_of c.args.output.now) in
    let new = g.W.Write.contents (writer_of c.send_all.new.self) in
    subst (λ l. Appends old new l) (c.deref.ensures.value ∙ c.in_ok-source.ensures) c.in_ok-send_all.ensures.ok
