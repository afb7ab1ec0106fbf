-- From turn to turn the lines of what was read go out, and each end is that of the stream.
use Rattle.std.proofs.Common.{◌∙◌, Bool, Err, Ok, ℕ, arith, refl, subst, sym}
use Rattle.std.specs.Io.KnownBytes.{Appends}
use Rattle.gob_stream.specs.Bounds.{Bounds, within_trees}
use Rattle.gob_stream.specs.Calls.Ends.{failed_reads, failed_writes, reader_of, writer_of}
use Rattle.gob_stream.specs.Calls.ReaderOf.{types_behind}
use Rattle.gob_stream.proofs.Reader.ReaderOfLaws.{goes_on, has_ended}
use Rattle.gob_filled.specs.Outcome.{profile}
use Rattle.gob_go.specs.Calls.Reader.{GoReader, session_of}
use Rattle.gob_go.specs.Calls.Session.{limits_of, taken_of}
use Rattle.gob_go.specs.GoStepping.{go_stepping}
use Rattle.gob_tool.specs.Answering.{AppendsPrefix}
use Rattle.gob_tool.specs.Ending.{CountsOnlyWrites}
use Rattle.gob_tool.specs.Fault.{reading_fault, writing_fault}
use Rattle.gob_tool.specs.Showing.{CountsReadFaults}
use Rattle.gob_tool.specs.Texts.{OfTexts}
use Rattle.gob_tool.specs.declared.fault.ToolFault.TheVariants as fault
use Rattle.gob_tool.proofs.EndLaws.{at_error, reads_unread, stop_faults, write_counts, writing_unread}
use Rattle.gob_tool.proofs.TextLaws.{no_texts_out, shown_none, shown_stops, shown_whole, texts_fall, texts_first}
use Rattle.gob_tool.proofs.TextLaws.{texts_flushed, texts_turn, texts_under, texts_unflushed}
use Rattle.gob_views.specs.Each.{EachAnswers}
use Rattle.gob_views.specs.Machine.PartStream.{IsLineBy}
use Rattle.gob_views.proofs.EachRuns.{each_of, no_writes, read_faults, reading_unwritten, writes_as}
use Rattle.gob_views.proofs.each.write_each.Goals as goal

pub returns-in_err-reader-clause-printed : goal.returns-in_err-reader-clause-printed
returns-in_err-reader-clause-printed g c = λ bytes known.
    let Is = IsLineBy c.args.lines in
    let now = g.R.Read.remaining (reader_of c.args.input.now) in
    let out = g.W.Write.contents (writer_of c.args.output.now) in
    let L = within_trees c.args.limits in
    at_error (λ r. EachAnswers c.args.lines L bytes now out out r) c.from_residual.result fault.Memory
    c.from_residual.ensures.1
    (each_of c.args.lines L bytes now out out (Err fault.Memory)
    (shown_none profile L bytes now (λ T items. OfTexts profile Is L bytes (Appends out out) items)
    (λ T items. OfTexts profile Is L bytes (AppendsPrefix out out) items) c.in_err-reader.ensures.nothing known
    (no_texts_out go_stepping L bytes out)))

pub items-init : goal.items-init
items-init g c =
    let read = g.R.Read.remaining (reader_of c.args.input.now) in
    record {
      limits = c.in_ok-reader.ensures.limits;
      reads = refl;
      writes = refl;
      so = texts_first go_stepping c.in_ok-reader.reader read (g.W.Write.contents (writer_of c.args.output.now))
          c.in_ok-reader.ensures.stands (c.in_ok-reader.ensures.new read);
    }

pub returns-in_err-more-clause-printed : goal.returns-in_err-more-clause-printed
returns-in_err-more-clause-printed g c = λ bytes known.
    let Is = IsLineBy c.args.lines in
    let i = c.items.invariant in
    let e = c.in_err-more.field-0.0 in
    let read = g.R.Read.remaining (reader_of c.args.input.now) in
    let next = g.R.Read.remaining (reader_of c.more.new.input) in
    let old = g.W.Write.contents (writer_of c.args.output.now) in
    let out = g.W.Write.contents (writer_of c.items.output) in
    let L = within_trees (limits_of (session_of c.items.reader)) in
    at_error (λ r. EachAnswers c.args.lines (within_trees c.args.limits) bytes next old out r)
    c.from_residual-in_err-more.result (reading_fault e) c.from_residual-in_err-more.ensures.1
    (subst (λ (L : Bounds). EachAnswers c.args.lines (within_trees L) bytes next old out (Err (reading_fault e)))
    i.limits
    (each_of c.args.lines L bytes next old out (Err (reading_fault e))
    (shown_stops profile L (types_behind go_stepping i.so.has) i.so.given bytes next
    (λ T items. OfTexts profile Is L bytes (Appends old out) items)
    (λ T items. OfTexts profile Is L bytes (AppendsPrefix old out) items) e
    (c.in_err-more.ensures.filled read i.so.given i.so.has bytes known) (i.so.out bytes known))))

pub returns-in_err-more-clause-reads : goal.returns-in_err-more-clause-reads
returns-in_err-more-clause-reads g c =
    let e = c.in_err-more.field-0.0 in
    at_error (λ r. CountsReadFaults (failed_reads c.args.input.now) (failed_reads c.more.new.input) r)
    c.from_residual-in_err-more.result (reading_fault e) c.from_residual-in_err-more.ensures.1
    (stop_faults Bool (failed_reads c.args.input.now) (failed_reads c.items.input) (failed_reads c.more.new.input)
    e c.items.invariant.reads c.in_err-more.ensures.counted)

pub returns-in_err-more-clause-writes : goal.returns-in_err-more-clause-writes
returns-in_err-more-clause-writes g c =
    let e = c.in_err-more.field-0.0 in
    let old = failed_writes c.args.output.now in
    let new = failed_writes c.items.output in
    at_error (λ r. CountsOnlyWrites old new r) c.from_residual-in_err-more.result (reading_fault e)
    c.from_residual-in_err-more.ensures.1
    (no_writes (Unit {0}) old new (reading_fault e) (reading_unwritten e) c.items.invariant.writes)

pub write_next-requires : goal.write_next-requires
write_next-requires g c =
    let i = c.items.invariant in
    let read = g.R.Read.remaining (reader_of c.args.input.now) in
    let next = g.R.Read.remaining (reader_of c.more.new.input) in
    let on = goes_on go_stepping (session_of c.items.reader) (types_behind go_stepping i.so.has) c.more.new.self read
    next i.so.given c.in_ok-more.field-0 c.if-branch.true (c.in_ok-more.ensures.filled read i.so.given i.so.has) in
    record {
      some = c.in_ok-more.ensures.some c.if-branch.true;
      so_far = record { read = read; given = i.so.given; has = on.0 };
    }

pub items-smaller : goal.items-smaller
items-smaller g c =
    let i = c.items.invariant in
    let read = g.R.Read.remaining (reader_of c.args.input.now) in
    let next = g.R.Read.remaining (reader_of c.more.new.input) in
    let on = goes_on go_stepping (session_of c.items.reader) (types_behind go_stepping i.so.has) c.more.new.self read
    next i.so.given c.in_ok-more.field-0 c.if-branch.true (c.in_ok-more.ensures.filled read i.so.given i.so.has) in
    let made = (c.in_ok-reader-2.ensures.written read i.so.given on.0).1 in
    texts_fall go_stepping made.0.stands c.items.reader (taken_of (session_of c.items.reader))
    (c.in_ok-reader-2.ensures.limits ∙ c.in_ok-more.ensures.limits) made.0.after (omega (arith, on.1, made.1))

pub items-preserved : goal.items-preserved
items-preserved g c =
    let i = c.items.invariant in
    let read = g.R.Read.remaining (reader_of c.args.input.now) in
    let next = g.R.Read.remaining (reader_of c.more.new.input) in
    let on = goes_on go_stepping (session_of c.items.reader) (types_behind go_stepping i.so.has) c.more.new.self read
    next i.so.given c.in_ok-more.field-0 c.if-branch.true (c.in_ok-more.ensures.filled read i.so.given i.so.has) in
    let shown = c.in_ok-reader-2.ensures.written read i.so.given on.0 in
    record {
      limits = c.in_ok-reader-2.ensures.limits ∙ c.in_ok-more.ensures.limits ∙ i.limits;
      reads = c.in_ok-reader-2.ensures.reads ∙ c.in_ok-more.ensures.counted ∙ i.reads;
      writes = c.in_ok-flush_before_waiting.ensures.counted ∙ c.in_ok-reader-2.ensures.writes ∙ i.writes;
      so = texts_flushed go_stepping
          (texts_turn go_stepping i.so c.in_ok-more.ensures.limits shown.1.0 shown.2)
          c.in_ok-flush_before_waiting.ensures.bytes;
    }

pub returns-in_err-flush_before_waiting-clause-printed : goal.returns-in_err-flush_before_waiting-clause-printed
returns-in_err-flush_before_waiting-clause-printed g c = λ bytes known.
    let i = c.items.invariant in
    let e = c.in_err-flush_before_waiting.field-0.0 in
    let read = g.R.Read.remaining (reader_of c.args.input.now) in
    let mid = g.R.Read.remaining (reader_of c.more.new.input) in
    let next = g.R.Read.remaining (reader_of c.write_next.new.input) in
    let old = g.W.Write.contents (writer_of c.args.output.now) in
    let new = g.W.Write.contents (writer_of c.flush_before_waiting.new.output) in
    let on = goes_on go_stepping (session_of c.items.reader) (types_behind go_stepping i.so.has) c.more.new.self read
    mid i.so.given c.in_ok-more.field-0 c.if-branch.true (c.in_ok-more.ensures.filled read i.so.given i.so.has) in
    let shown = c.in_ok-reader-2.ensures.written read i.so.given on.0 in
    let so = texts_flushed go_stepping (texts_turn go_stepping i.so c.in_ok-more.ensures.limits shown.1.0 shown.2)
    c.in_err-flush_before_waiting.ensures.bytes in
    at_error (λ r. EachAnswers c.args.lines (within_trees c.args.limits) bytes next old new r)
    c.from_residual-in_err-flush_before_waiting.result (writing_fault e)
    c.from_residual-in_err-flush_before_waiting.ensures.1
    (subst (λ (L : Bounds). EachAnswers c.args.lines (within_trees L) bytes next old new (Err (writing_fault e)))
    (c.in_ok-reader-2.ensures.limits ∙ c.in_ok-more.ensures.limits ∙ i.limits)
    (rw c.in_err-flush_before_waiting.ensures.fault
    (each_of c.args.lines _ bytes next old new (Err fault.Write) (texts_unflushed go_stepping so bytes known))))

pub returns-in_err-flush_before_waiting-clause-reads : goal.returns-in_err-flush_before_waiting-clause-reads
returns-in_err-flush_before_waiting-clause-reads g c =
    let e = c.in_err-flush_before_waiting.field-0.0 in
    let new = failed_reads c.write_next.new.input in
    at_error (λ r. CountsReadFaults (failed_reads c.args.input.now) new r)
    c.from_residual-in_err-flush_before_waiting.result (writing_fault e)
    c.from_residual-in_err-flush_before_waiting.ensures.1
    (reads_unread (failed_reads c.args.input.now) new (Err (writing_fault e))
    (c.in_ok-reader-2.ensures.reads ∙ c.in_ok-more.ensures.counted ∙ c.items.invariant.reads) (writing_unread e))

pub returns-in_err-flush_before_waiting-clause-writes : goal.returns-in_err-flush_before_waiting-clause-writes
returns-in_err-flush_before_waiting-clause-writes g c =
    let i = c.items.invariant in
    let e = c.in_err-flush_before_waiting.field-0.0 in
    let old = failed_writes c.args.output.now in
    let new = failed_writes c.flush_before_waiting.new.output in
    at_error (λ r. CountsOnlyWrites old new r) c.from_residual-in_err-flush_before_waiting.result (writing_fault e)
    c.from_residual-in_err-flush_before_waiting.ensures.1
    (write_counts old (failed_writes c.write_next.new.output) new e c.in_err-flush_before_waiting.ensures.fault
    (c.in_ok-reader-2.ensures.writes ∙ i.writes) c.in_err-flush_before_waiting.ensures.counted)

pub returns-in_err-reader-2-clause-printed : goal.returns-in_err-reader-2-clause-printed
returns-in_err-reader-2-clause-printed g c = λ bytes known.
    let i = c.items.invariant in
    let f = c.in_err-reader-2.field-0.0 in
    let read = g.R.Read.remaining (reader_of c.args.input.now) in
    let mid = g.R.Read.remaining (reader_of c.more.new.input) in
    let next = g.R.Read.remaining (reader_of c.write_next.new.input) in
    let old = g.W.Write.contents (writer_of c.args.output.now) in
    let new = g.W.Write.contents (writer_of c.write_next.new.output) in
    let on = goes_on go_stepping (session_of c.items.reader) (types_behind go_stepping i.so.has) c.more.new.self read
    mid i.so.given c.in_ok-more.field-0 c.if-branch.true (c.in_ok-more.ensures.filled read i.so.given i.so.has) in
    let o = i.so.out bytes known in
    at_error (λ r. EachAnswers c.args.lines (within_trees c.args.limits) bytes next old new r)
    c.from_residual-in_err-reader-2.result f c.from_residual-in_err-reader-2.ensures.1
    (subst (λ (L : Bounds). EachAnswers c.args.lines (within_trees L) bytes next old new (Err f))
    (c.in_ok-more.ensures.limits ∙ i.limits)
    (c.in_err-reader-2.ensures.written read i.so.given on.0 bytes known old (record {
      text = o.text;
      texts = texts_under go_stepping (sym c.in_ok-more.ensures.limits) o.texts;
      holds = o.holds;
    })))

pub returns-in_err-reader-2-clause-reads : goal.returns-in_err-reader-2-clause-reads
returns-in_err-reader-2-clause-reads g c =
    let f = c.in_err-reader-2.field-0.0 in
    let old = failed_reads c.args.input.now in
    let new = failed_reads c.write_next.new.input in
    at_error (λ r. CountsReadFaults old new r) c.from_residual-in_err-reader-2.result f
    c.from_residual-in_err-reader-2.ensures.1
    (read_faults old (failed_reads c.more.new.input) new f (c.in_ok-more.ensures.counted ∙ c.items.invariant.reads)
    c.in_err-reader-2.ensures.reads)

pub returns-in_err-reader-2-clause-writes : goal.returns-in_err-reader-2-clause-writes
returns-in_err-reader-2-clause-writes g c =
    let f = c.in_err-reader-2.field-0.0 in
    let old = failed_writes c.items.output in
    let new = failed_writes c.write_next.new.output in
    let res = c.from_residual-in_err-reader-2.result in
    subst (λ (n : ℕ). CountsOnlyWrites n new res) c.items.invariant.writes
    (at_error (λ r. CountsOnlyWrites old new r) res f c.from_residual-in_err-reader-2.ensures.1
    (writes_as GoReader (Unit {0}) old new f c.in_err-reader-2.ensures.writes))

pub returns-clause-printed : goal.returns-clause-printed
returns-clause-printed g c = λ bytes known.
    let Is = IsLineBy c.args.lines in
    let i = c.items.invariant in
    let read = g.R.Read.remaining (reader_of c.args.input.now) in
    let next = g.R.Read.remaining (reader_of c.more.new.input) in
    let old = g.W.Write.contents (writer_of c.args.output.now) in
    let out = g.W.Write.contents (writer_of c.items.output) in
    let s = session_of c.items.reader in
    let L = within_trees (limits_of s) in
    let end = has_ended go_stepping s (types_behind go_stepping i.so.has) c.more.new.self read next i.so.given
    c.in_ok-more.field-0 c.if-branch.false (c.in_ok-more.ensures.filled read i.so.given i.so.has) in
    subst (λ (L : Bounds). EachAnswers c.args.lines (within_trees L) bytes next old out (Ok tt)) i.limits
    (each_of c.args.lines L bytes next old out (Ok tt)
    (shown_whole profile (λ T items. OfTexts profile Is L bytes (Appends old out) items) (end.0 bytes known)
    (i.so.out bytes known)))

pub returns-clause-reads : goal.returns-clause-reads
returns-clause-reads g c = c.in_ok-more.ensures.counted ∙ c.items.invariant.reads

pub returns-clause-writes : goal.returns-clause-writes
returns-clause-writes g c = c.items.invariant.writes
