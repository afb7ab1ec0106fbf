-- The wanted stream is read first; where it has no wanted type, nothing else is done. Then the definitions go out.
use Rattle.std.proofs.Common.{Ok, Err, Result, ap, inl, refl, subst, sym}
use Rattle.std.specs.Io.KnownBytes.{Appends}
use Rattle.std.proofs.KnownBytes.{Appends-nil}
use Rattle.gob_types.specs.Defined.{types}
use Rattle.gob_stream.specs.Bounds.{Bounds, within_trees}
use Rattle.gob_stream.specs.Calls.Session.{types_of}
use Rattle.gob_stream.specs.Calls.Ends.{failed_reads, failed_writes, reader_of, writer_of}
use Rattle.gob_stream.specs.Calls.Reader.{session_of}
use Rattle.gob_tool.specs.Ending.{CountsOnlyWrites}
use Rattle.gob_tool.specs.Fault.{writing_fault}
use Rattle.gob_tool.specs.Machine.Received.{FormAnswers, text_in_front}
use Rattle.gob_tool.specs.Machine.Taken.{FindsWanted}
use Rattle.gob_tool.specs.Sending.{Sends}
use Rattle.gob_tool.specs.Taking.{CountsTakeReads, stops_at_wanted}
use Rattle.gob_tool.specs.declared.fault.ToolFault.{ToolFault}
use Rattle.gob_tool.specs.declared.fault.ToolFault.TheVariants as fault
use Rattle.gob_tool.proofs.EndLaws.{at_error, sent_prefix, write_counts}
use Rattle.gob_tool.proofs.TakeRuns.{none_received, ready_as, received_so, then_counts, wanted_alone}
use Rattle.gob_tool.proofs.TakeRuns.{wanted_unwritten}
use Rattle.gob_tool.proofs.WantedLaws.{found_wanted}
use Rattle.gob_tool.proofs.take.receive_as_wanted.Goals as goal

pub returns-in_err-reader-clause-received : goal.returns-in_err-reader-clause-received
returns-in_err-reader-clause-received g c = λ wanted bytes known left.
    let out = g.W.Write.contents (writer_of c.args.output.now) in
    at_error (λ r. FormAnswers c.args.form (within_trees c.args.limits) wanted bytes
    (g.Q.Read.remaining (reader_of c.args.wanted.now))
    (g.R.Read.remaining (reader_of c.args.input.now)) out out r) c.from_residual.result fault.Memory
    c.from_residual.ensures.1
    (stops_at_wanted tt (record { unread = left; unwritten = Appends-nil out }))

pub returns-in_err-id-clause-received : goal.returns-in_err-id-clause-received
returns-in_err-id-clause-received g c = λ wanted bytes known left.
    let out = g.W.Write.contents (writer_of c.args.output.now) in
    let wanted_now = g.Q.Read.remaining (reader_of c.read_wanted.new.input) in
    let f = c.in_err-id.field-0.0 in
    let lacks = subst (λ (L : Bounds). FindsWanted (within_trees L) wanted wanted_now
    (types_of (session_of c.read_wanted.new.reader)) c.read_wanted.new.definitions.items
    (Err f)) c.in_ok-reader.ensures.limits (c.in_err-id.ensures.found wanted known) in
    at_error (λ r. FormAnswers c.args.form (within_trees c.args.limits) wanted bytes wanted_now
    (g.R.Read.remaining (reader_of c.args.input.now)) out out r) c.from_residual-in_err-id.result f
    c.from_residual-in_err-id.ensures.1 (stops_at_wanted lacks (record { unread = left; unwritten = Appends-nil out }))

pub returns-in_err-id-clause-reads : goal.returns-in_err-id-clause-reads
returns-in_err-id-clause-reads g c =
    let f = c.in_err-id.field-0.0 in
    at_error (λ r. CountsTakeReads (failed_reads c.args.wanted.now) (failed_reads c.read_wanted.new.input)
    (failed_reads c.args.input.now) (failed_reads c.args.input.now) r) c.from_residual-in_err-id.result f
    c.from_residual-in_err-id.ensures.1
    (wanted_alone (failed_reads c.args.wanted.now) (failed_reads c.read_wanted.new.input)
    (failed_reads c.args.input.now) f
    c.in_err-id.ensures.reads)

pub returns-in_err-id-clause-writes : goal.returns-in_err-id-clause-writes
returns-in_err-id-clause-writes g c =
    let f = c.in_err-id.field-0.0 in
    at_error (λ r. CountsOnlyWrites (failed_writes c.args.output.now) (failed_writes c.args.output.now) r)
    c.from_residual-in_err-id.result f c.from_residual-in_err-id.ensures.1
    (wanted_unwritten (failed_reads c.args.wanted.now) (failed_reads c.read_wanted.new.input)
    (failed_writes c.args.output.now) f
    c.in_err-id.ensures.reads)

pub returns-in_err-begin-clause-received : goal.returns-in_err-begin-clause-received
returns-in_err-begin-clause-received g c = λ wanted bytes known left.
    let old = g.W.Write.contents (writer_of c.args.output.now) in
    let new = g.W.Write.contents (writer_of c.begin.new.output) in
    let wanted_now = g.Q.Read.remaining (reader_of c.read_wanted.new.input) in
    let now = g.R.Read.remaining (reader_of c.args.input.now) in
    let e = c.in_err-begin.field-0.0 in
    let definitions = c.read_wanted.new.definitions.items in
    let s = subst (λ d. Sends old new (text_in_front c.args.form d) (Err e)) c.deref.ensures.value
    c.in_err-begin.ensures.sent in
    let found = subst (λ (L : Bounds). FindsWanted (within_trees L) wanted wanted_now
    (types_of (session_of c.read_wanted.new.reader)) definitions (Ok c.in_ok-id.id)) c.in_ok-reader.ensures.limits
    (c.in_ok-id.ensures.found wanted known) in
    let answer = λ (r : Result (Unit {0}) ToolFault). FormAnswers c.args.form (within_trees c.args.limits) wanted bytes
    wanted_now now old new r in
    at_error answer c.from_residual-in_err-begin.result (writing_fault e) c.from_residual-in_err-begin.ensures.1
    (subst (λ e. answer (Err (writing_fault e))) (sym s.0) (found_wanted c.args.form found refl
    (λ given knows. none_received c.args.form c.in_ok-id.ensures.ready knows
    (sent_prefix old new (text_in_front c.args.form definitions) s.1))))

pub returns-in_err-begin-clause-reads : goal.returns-in_err-begin-clause-reads
returns-in_err-begin-clause-reads g c =
    let e = c.in_err-begin.field-0.0 in
    let failed = failed_reads c.args.input.now in
    let counts = λ (r : Result (Unit {0}) ToolFault). CountsTakeReads (failed_reads c.args.wanted.now)
    (failed_reads c.read_wanted.new.input) failed
    failed r in
    at_error counts c.from_residual-in_err-begin.result (writing_fault e) c.from_residual-in_err-begin.ensures.1
    (subst (λ e. counts (Err (writing_fault e))) (sym c.in_err-begin.ensures.sent.0)
    (c.in_ok-id.ensures.reads, inl refl))

pub returns-in_err-begin-clause-writes : goal.returns-in_err-begin-clause-writes
returns-in_err-begin-clause-writes g c =
    let e = c.in_err-begin.field-0.0 in
    let old = failed_writes c.args.output.now in
    let new = failed_writes c.begin.new.output in
    at_error (λ r. CountsOnlyWrites old new r) c.from_residual-in_err-begin.result (writing_fault e)
    c.from_residual-in_err-begin.ensures.1
    (write_counts old old new e c.in_err-begin.ensures.sent.0 refl c.in_err-begin.ensures.counted)

pub receive_values-requires : goal.receive_values-requires
receive_values-requires g c = record {
  ready = ready_as (ap (λ d. types d) c.table.ensures) refl c.in_ok-id.ensures.ready;
  number = c.in_ok-id.ensures.number;
}

pub returns-clause-received : goal.returns-clause-received
returns-clause-received g c = λ wanted bytes known left.
    let U = types_of (session_of c.read_wanted.new.reader) in
    let same = ap (λ d. types d) c.table.ensures in
    found_wanted c.args.form
    (subst (λ (L : Bounds). FindsWanted (within_trees L) wanted
    (g.Q.Read.remaining (reader_of c.read_wanted.new.input)) U c.read_wanted.new.definitions.items
    (Ok c.in_ok-id.id)) c.in_ok-reader.ensures.limits (c.in_ok-id.ensures.found wanted known)) same
    (λ given knows. received_so c.args.form (ready_as same refl c.in_ok-id.ensures.ready) knows
    (g.R.Read.remaining (reader_of c.receive_values.new.input)) (g.W.Write.contents (writer_of c.args.output.now))
    (g.W.Write.contents (writer_of c.begin.new.output)) (g.W.Write.contents (writer_of c.receive_values.new.output))
    (subst (λ d. Appends (g.W.Write.contents (writer_of c.args.output.now))
    (g.W.Write.contents (writer_of c.begin.new.output)) (text_in_front c.args.form d)) c.deref.ensures.value
    c.in_ok-begin.ensures.sent) (c.receive_values.ensures.received bytes left))

pub returns-clause-reads : goal.returns-clause-reads
returns-clause-reads g c =
    then_counts (failed_reads c.args.wanted.now) (failed_reads c.read_wanted.new.input) (failed_reads c.args.input.now)
    (failed_reads c.receive_values.new.input) c.receive_values.result c.in_ok-id.ensures.reads
    c.receive_values.ensures.reads
