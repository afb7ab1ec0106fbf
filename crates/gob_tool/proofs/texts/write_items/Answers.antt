-- From turn to turn the lines of what was read go out, and each end is that of the stream.
use Rattle.std.proofs.Common.{Bool, Err, Ok, ◌∙◌, arith, refl, subst, sym}
use Rattle.std.specs.Io.KnownBytes.{Appends}
use Rattle.gob_types.specs.Defined.{types}
use Rattle.gob_stream.specs.Calls.Ends.{failed_reads, failed_writes, reader_of, writer_of}
use Rattle.gob_stream.specs.Calls.ReaderOf.{session_of, types_behind}
use Rattle.gob_stream.specs.Stepping.{StandsBy}
use Rattle.gob_stream.proofs.Reader.ReaderOfLaws.{goes_on, has_ended}
use Rattle.gob_tool.specs.Answering.{AppendsPrefix}
use Rattle.gob_tool.specs.Ending.{CountsOnlyWrites}
use Rattle.gob_tool.specs.Fault.{reading_fault, writing_fault}
use Rattle.gob_tool.specs.Showing.{CountsReadFaults}
use Rattle.gob_tool.specs.Texts.{AnswersOrStops, answers, IsStopBy, IsTextBy, OfTexts}
use Rattle.gob_tool.specs.declared.fault.ToolFault.TheVariants as fault
use Rattle.gob_tool.proofs.EndLaws.{at_error, reads_unread, stop_faults, write_counts, writing_unread}
use Rattle.gob_tool.proofs.TextLaws.{answers_under, no_texts_out, shown_none, shown_stops, shown_whole}
use Rattle.gob_tool.proofs.TextLaws.{texts_fall, texts_first, texts_flushed, texts_turn, texts_under, texts_unflushed}
use Rattle.gob_tool.proofs.texts.write_items.Goals as goal

pub returns-in_err-reader-clause-written : goal.returns-in_err-reader-clause-written
returns-in_err-reader-clause-written g c = λ bytes known.
    let D = g.S.Steps.stepping in
    let Is = IsTextBy D (g.M.TextSteps.of_item c.args.texts.now) (g.M.TextSteps.of_value c.args.texts.now) in
    let Stop = IsStopBy D (g.M.TextSteps.stops c.args.texts.now) in
    let out = g.W.Write.contents (writer_of c.args.output.now) in
    let L = D.within c.args.limits in
    at_error (λ r. AnswersOrStops D.grammar Is Stop L bytes (g.R.Read.remaining (reader_of c.args.input.now)) out out r)
    c.from_residual.result fault.Memory c.from_residual.ensures.1
    (answers (shown_none D.grammar L bytes (g.R.Read.remaining (reader_of c.args.input.now))
    (λ T items. OfTexts D.grammar Is L bytes (Appends out out) items)
    (λ T items. OfTexts D.grammar Is L bytes (AppendsPrefix out out) items) c.in_err-reader.ensures.nothing known
    (no_texts_out D L bytes out)))

pub items-init : goal.items-init
items-init g c =
    let D = g.S.Steps.stepping in
    let read = g.R.Read.remaining (reader_of c.args.input.now) in (
      c.in_ok-reader.ensures.limits,
      refl,
      refl,
      texts_first D c.in_ok-reader.reader read (g.W.Write.contents (writer_of c.args.output.now))
          c.in_ok-reader.ensures.stands (c.in_ok-reader.ensures.new read),
      c.requires.fits (types (D.table (session_of c.in_ok-reader.reader))),
    )

pub returns-in_err-fill-clause-written : goal.returns-in_err-fill-clause-written
returns-in_err-fill-clause-written g c = λ bytes known.
    let D = g.S.Steps.stepping in
    let Is = IsTextBy D (g.M.TextSteps.of_item c.args.texts.now) (g.M.TextSteps.of_value c.args.texts.now) in
    let Stop = IsStopBy D (g.M.TextSteps.stops c.args.texts.now) in
    let i = c.items.invariant in
    let e = c.in_err-fill.field-0.0 in
    let read = g.R.Read.remaining (reader_of c.args.input.now) in
    let next = g.R.Read.remaining (reader_of c.fill.new.input) in
    let old = g.W.Write.contents (writer_of c.args.output.now) in
    let out = g.W.Write.contents (writer_of c.items.output) in
    let s = session_of c.items.reader in
    let L = D.within (D.limits s) in
    at_error (λ r. AnswersOrStops D.grammar Is Stop (D.within c.args.limits) bytes next old out r)
    c.from_residual-in_err-fill.result (reading_fault e) c.from_residual-in_err-fill.ensures.1
    (answers_under D Is Stop (D.limits s) c.args.limits bytes next old out (Err (reading_fault e)) i.0
    (answers (shown_stops D.grammar L (types_behind D i.3.has) i.3.given bytes next
    (λ T items. OfTexts D.grammar Is L bytes (Appends old out) items)
    (λ T items. OfTexts D.grammar Is L bytes (AppendsPrefix old out) items) e
    (c.in_err-fill.ensures.filled read i.3.given i.3.has bytes known) (i.3.out bytes known))))

pub returns-in_err-fill-clause-reads : goal.returns-in_err-fill-clause-reads
returns-in_err-fill-clause-reads g c =
    let i = c.items.invariant in
    let e = c.in_err-fill.field-0.0 in
    at_error (λ r. CountsReadFaults (failed_reads c.args.input.now) (failed_reads c.fill.new.input) r)
    c.from_residual-in_err-fill.result (reading_fault e) c.from_residual-in_err-fill.ensures.1
    (stop_faults Bool (failed_reads c.args.input.now) (failed_reads c.items.input) (failed_reads c.fill.new.input)
    e i.1 c.in_err-fill.ensures.counted)

pub write_next-requires-clause-so_far : goal.write_next-requires-clause-so_far
write_next-requires-clause-so_far g c =
    let D = g.S.Steps.stepping in
    let i = c.items.invariant in
    let read = g.R.Read.remaining (reader_of c.args.input.now) in
    let next = g.R.Read.remaining (reader_of c.fill.new.input) in
    let on = goes_on D (session_of c.items.reader) (types_behind D i.3.has) c.fill.new.self read next
    i.3.given c.in_ok-fill.field-0 c.if-branch.true (c.in_ok-fill.ensures.filled read i.3.given i.3.has) in
    record {
      read = read;
      now = next;
      given = i.3.given;
      has = on.0;
      stands = subst (λ s. StandsBy D s) (sym (c.in_ok-fill.ensures.same c.if-branch.true)) i.3.stands;
    }

pub write_next-requires-clause-fits : goal.write_next-requires-clause-fits
write_next-requires-clause-fits g c =
    subst (λ d. g.M.TextSteps.fits c.args.texts.now c.items.kept (types d)) (sym c.in_ok-fill.ensures.types)
    c.items.invariant.4

pub items-smaller : goal.items-smaller
items-smaller g c =
    let D = g.S.Steps.stepping in
    let i = c.items.invariant in
    let read = g.R.Read.remaining (reader_of c.args.input.now) in
    let next = g.R.Read.remaining (reader_of c.fill.new.input) in
    let on = goes_on D (session_of c.items.reader) (types_behind D i.3.has) c.fill.new.self read next
    i.3.given c.in_ok-fill.field-0 c.if-branch.true (c.in_ok-fill.ensures.filled read i.3.given i.3.has) in
    let Is = IsTextBy D (g.M.TextSteps.of_item c.args.texts.now) (g.M.TextSteps.of_value c.args.texts.now) in
    let made = (c.in_ok-write_next.ensures.written read next i.3.given on.0).1 in
    texts_fall D made.0.stands c.items.reader (D.taken (session_of c.items.reader))
    (c.in_ok-write_next.ensures.limits ∙ c.in_ok-fill.ensures.limits) made.0.after (omega (arith, on.1, made.1))

pub items-preserved : goal.items-preserved
items-preserved g c =
    let D = g.S.Steps.stepping in
    let i = c.items.invariant in
    let read = g.R.Read.remaining (reader_of c.args.input.now) in
    let next = g.R.Read.remaining (reader_of c.fill.new.input) in
    let on = goes_on D (session_of c.items.reader) (types_behind D i.3.has) c.fill.new.self read next
    i.3.given c.in_ok-fill.field-0 c.if-branch.true (c.in_ok-fill.ensures.filled read i.3.given i.3.has) in
    let shown = c.in_ok-write_next.ensures.written read next i.3.given on.0 in (
      c.in_ok-write_next.ensures.limits ∙ c.in_ok-fill.ensures.limits ∙ i.0,
      c.in_ok-fill.ensures.counted ∙ i.1,
      c.in_ok-flush_before_waiting.ensures.counted ∙ c.in_ok-write_next.ensures.writes ∙ i.2,
      texts_flushed D (texts_turn D i.3 c.in_ok-fill.ensures.limits shown.1.0 shown.2)
          c.in_ok-flush_before_waiting.ensures.bytes,
      c.in_ok-write_next.ensures.fits,
    )

pub returns-in_err-flush_before_waiting-clause-written : goal.returns-in_err-flush_before_waiting-clause-written
returns-in_err-flush_before_waiting-clause-written g c = λ bytes known.
    let D = g.S.Steps.stepping in
    let Is = IsTextBy D (g.M.TextSteps.of_item c.args.texts.now) (g.M.TextSteps.of_value c.args.texts.now) in
    let Stop = IsStopBy D (g.M.TextSteps.stops c.args.texts.now) in
    let i = c.items.invariant in
    let e = c.in_err-flush_before_waiting.field-0.0 in
    let read = g.R.Read.remaining (reader_of c.args.input.now) in
    let next = g.R.Read.remaining (reader_of c.fill.new.input) in
    let old = g.W.Write.contents (writer_of c.args.output.now) in
    let new = g.W.Write.contents (writer_of c.flush_before_waiting.new.output) in
    let s = session_of c.write_next.new.reader in
    let on = goes_on D (session_of c.items.reader) (types_behind D i.3.has) c.fill.new.self read next
    i.3.given c.in_ok-fill.field-0 c.if-branch.true (c.in_ok-fill.ensures.filled read i.3.given i.3.has) in
    let shown = c.in_ok-write_next.ensures.written read next i.3.given on.0 in
    let so = texts_flushed D (texts_turn D i.3 c.in_ok-fill.ensures.limits shown.1.0 shown.2)
    c.in_err-flush_before_waiting.ensures.bytes in
    at_error (λ r. AnswersOrStops D.grammar Is Stop (D.within c.args.limits) bytes next old new r)
    c.from_residual-in_err-flush_before_waiting.result (writing_fault e)
    c.from_residual-in_err-flush_before_waiting.ensures.1
    (answers_under D Is Stop (D.limits s) c.args.limits bytes next old new (Err (writing_fault e))
    (c.in_ok-write_next.ensures.limits ∙ c.in_ok-fill.ensures.limits ∙ i.0)
    (rw c.in_err-flush_before_waiting.ensures.fault (answers (texts_unflushed D so bytes known))))

pub returns-in_err-flush_before_waiting-clause-reads : goal.returns-in_err-flush_before_waiting-clause-reads
returns-in_err-flush_before_waiting-clause-reads g c =
    let e = c.in_err-flush_before_waiting.field-0.0 in
    at_error (λ r. CountsReadFaults (failed_reads c.args.input.now) (failed_reads c.fill.new.input) r)
    c.from_residual-in_err-flush_before_waiting.result (writing_fault e)
    c.from_residual-in_err-flush_before_waiting.ensures.1
    (reads_unread (failed_reads c.args.input.now) (failed_reads c.fill.new.input) (Err (writing_fault e))
    (c.in_ok-fill.ensures.counted ∙ c.items.invariant.1) (writing_unread e))

pub returns-in_err-flush_before_waiting-clause-writes : goal.returns-in_err-flush_before_waiting-clause-writes
returns-in_err-flush_before_waiting-clause-writes g c =
    let i = c.items.invariant in
    let e = c.in_err-flush_before_waiting.field-0.0 in
    at_error (λ r. CountsOnlyWrites (failed_writes c.args.output.now) (failed_writes c.flush_before_waiting.new.output)
    r) c.from_residual-in_err-flush_before_waiting.result (writing_fault e)
    c.from_residual-in_err-flush_before_waiting.ensures.1
    (write_counts (failed_writes c.args.output.now) (failed_writes c.write_next.new.output)
    (failed_writes c.flush_before_waiting.new.output) e c.in_err-flush_before_waiting.ensures.fault
    (c.in_ok-write_next.ensures.writes ∙ i.2) c.in_err-flush_before_waiting.ensures.counted)

pub returns-in_err-write_next-clause-written : goal.returns-in_err-write_next-clause-written
returns-in_err-write_next-clause-written g c = λ bytes known.
    let D = g.S.Steps.stepping in
    let Is = IsTextBy D (g.M.TextSteps.of_item c.args.texts.now) (g.M.TextSteps.of_value c.args.texts.now) in
    let Stop = IsStopBy D (g.M.TextSteps.stops c.args.texts.now) in
    let i = c.items.invariant in
    let f = c.in_err-write_next.field-0.0 in
    let read = g.R.Read.remaining (reader_of c.args.input.now) in
    let next = g.R.Read.remaining (reader_of c.fill.new.input) in
    let old = g.W.Write.contents (writer_of c.args.output.now) in
    let new = g.W.Write.contents (writer_of c.write_next.new.output) in
    let s = session_of c.fill.new.self in
    let on = goes_on D (session_of c.items.reader) (types_behind D i.3.has) c.fill.new.self read next
    i.3.given c.in_ok-fill.field-0 c.if-branch.true (c.in_ok-fill.ensures.filled read i.3.given i.3.has) in
    let o = i.3.out bytes known in
    at_error (λ r. AnswersOrStops D.grammar Is Stop (D.within c.args.limits) bytes next old new r)
    c.from_residual-in_err-write_next.result f c.from_residual-in_err-write_next.ensures.1
    (answers_under D Is Stop (D.limits s) c.args.limits bytes next old new (Err f) (c.in_ok-fill.ensures.limits ∙ i.0)
    (c.in_err-write_next.ensures.written read next i.3.given on.0 bytes known old
    (record { text = o.text; texts = texts_under D (sym c.in_ok-fill.ensures.limits) o.texts; holds = o.holds })))

pub returns-in_err-write_next-clause-reads : goal.returns-in_err-write_next-clause-reads
returns-in_err-write_next-clause-reads g c =
    let f = c.in_err-write_next.field-0.0 in
    at_error (λ r. CountsReadFaults (failed_reads c.args.input.now) (failed_reads c.fill.new.input) r)
    c.from_residual-in_err-write_next.result f c.from_residual-in_err-write_next.ensures.1
    (reads_unread (failed_reads c.args.input.now) (failed_reads c.fill.new.input) (Err f)
    (c.in_ok-fill.ensures.counted ∙ c.items.invariant.1) c.in_err-write_next.ensures.unread)

pub returns-clause-written : goal.returns-clause-written
returns-clause-written g c = λ bytes known.
    let D = g.S.Steps.stepping in
    let Is = IsTextBy D (g.M.TextSteps.of_item c.args.texts.now) (g.M.TextSteps.of_value c.args.texts.now) in
    let Stop = IsStopBy D (g.M.TextSteps.stops c.args.texts.now) in
    let i = c.items.invariant in
    let read = g.R.Read.remaining (reader_of c.args.input.now) in
    let next = g.R.Read.remaining (reader_of c.fill.new.input) in
    let old = g.W.Write.contents (writer_of c.args.output.now) in
    let out = g.W.Write.contents (writer_of c.items.output) in
    let s = session_of c.items.reader in
    let L = D.within (D.limits s) in
    let end = has_ended D s (types_behind D i.3.has) c.fill.new.self read next i.3.given c.in_ok-fill.field-0
    c.if-branch.false (c.in_ok-fill.ensures.filled read i.3.given i.3.has) in
    answers_under D Is Stop (D.limits s) c.args.limits bytes next old out (Ok tt) i.0
    (answers (shown_whole D.grammar (λ T items. OfTexts D.grammar Is L bytes (Appends old out) items)
    (end.0 bytes known) (i.3.out bytes known)))

pub returns-clause-reads : goal.returns-clause-reads
returns-clause-reads g c = c.in_ok-fill.ensures.counted ∙ c.items.invariant.1
