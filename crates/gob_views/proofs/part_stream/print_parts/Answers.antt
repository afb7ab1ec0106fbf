-- From step to step the lines of more parts go out, up to those of the last.
use Rattle.std.proofs.Common.{◌++◌, ◌∙◌, [], Bool, List, ℕ, arith, false, refl, subst}
use Rattle.std.proofs.KnownBytes.{Appends-kept, Appends-nil, Appends-trans}
use Rattle.std.specs.Io.KnownBytes.{Appends}
use Rattle.gob_stream.specs.Calls.Ends.{failed_reads, failed_writes, reader_of, writer_of}
use Rattle.gob_stream.specs.Calls.ReaderOf.{types_behind}
use Rattle.gob_stream.specs.Calls.Writing.{SentPrefix}
use Rattle.gob_stream.proofs.Reader.ReaderOfLaws.{goes_on, has_ended}
use Rattle.gob_go.specs.Calls.Reader.{session_of}
use Rattle.gob_go.specs.Calls.Session.{taken_of}
use Rattle.gob_go.specs.GoStepping.{nothing_meant, passing_stepping}
use Rattle.gob_go.proofs.SessionAnswers.{stands}
use Rattle.gob_tool.specs.Ending.{CountsOnlyWrites}
use Rattle.gob_tool.specs.Fault.{reading_fault, writing_fault}
use Rattle.gob_tool.specs.declared.fault.ToolFault.TheVariants as fault
use Rattle.gob_tool.proofs.EndLaws.{at_error, write_counts, writing_unread}
use Rattle.gob_tool.proofs.TextLaws.{texts_fall}
use Rattle.gob_views.specs.Machine.PartStream.{CountsOnlyReads, PrintsParts}
use Rattle.gob_views.proofs.EachLaws.{begun_at, cut_step, item_done, no_first, not_ended, stands_first, stands_next}
use Rattle.gob_views.proofs.EachLaws.{still, stops, stops_so, unflushed}
use Rattle.gob_views.proofs.EachRuns.{fill_counts, no_reads, no_writes, reading_unwritten}
use Rattle.gob_views.proofs.part_stream.print_parts.Goals as goal

pub returns-in_err-taken-clause-printed : goal.returns-in_err-taken-clause-printed
returns-in_err-taken-clause-printed g c = λ read given h.
    let r = c.args.reader.now in
    let out = g.W.Write.contents (writer_of c.args.output.now) in
    at_error (λ res. PrintsParts c.args.lines r r read (g.R.Read.remaining (reader_of c.args.input.now)) given out out
    res) c.from_residual.result fault.Memory c.from_residual.ensures.1 (no_first out c.requires.between h)

pub steps-init : goal.steps-init
steps-init g c =
    let styled = c.style_of.ensures (rw c.deref.ensures.value c.in_ok-taken.ensures) in
    record {
      limits = refl;
      reads = refl;
      writes = refl;
      styled = styled;
      onward = omega arith;
      text = [];
      out = Appends-nil (g.W.Write.contents (writer_of c.args.output.now));
      stands = λ read given h.
          rw c.new.ensures.items
          (stands_first (begun_at c.requires.between c.requires.begun styled) h);
    }

pub returns-in_err-more-clause-printed : goal.returns-in_err-more-clause-printed
returns-in_err-more-clause-printed g c = λ read given h.
    let i = c.steps.invariant in
    let s = c.steps.reader in
    let e = c.in_err-more.field-0.0 in
    let next = g.R.Read.remaining (reader_of c.more.new.input) in
    let old = g.W.Write.contents (writer_of c.args.output.now) in
    let out = g.W.Write.contents (writer_of c.steps.output) in
    let st = i.stands read given h in
    at_error (λ res. PrintsParts c.args.lines c.args.reader.now c.more.new.self read next given old out res)
    c.from_residual-in_err-more.result (reading_fault e) c.from_residual-in_err-more.ensures.1
    (stops s (begun_at c.requires.between c.requires.begun i.styled) i.limits next old out
    (types_behind passing_stepping st.has) e h st.printed i.out (c.in_err-more.ensures.filled read given st.has))

pub returns-in_err-more-clause-limits : goal.returns-in_err-more-clause-limits
returns-in_err-more-clause-limits g c = c.in_err-more.ensures.limits ∙ c.steps.invariant.limits

pub returns-in_err-more-clause-reads : goal.returns-in_err-more-clause-reads
returns-in_err-more-clause-reads g c =
    let e = c.in_err-more.field-0.0 in
    let was = failed_reads c.steps.input in
    let new = failed_reads c.more.new.input in
    let res = c.from_residual-in_err-more.result in
    subst (λ (n : ℕ). CountsOnlyReads n new res) c.steps.invariant.reads
    (at_error (λ r. CountsOnlyReads was new r) res (reading_fault e) c.from_residual-in_err-more.ensures.1
    (fill_counts (Unit {0}) Bool was new e c.in_err-more.ensures.counted))

pub returns-in_err-more-clause-writes : goal.returns-in_err-more-clause-writes
returns-in_err-more-clause-writes g c =
    let e = c.in_err-more.field-0.0 in
    let old = failed_writes c.args.output.now in
    let new = failed_writes c.steps.output in
    at_error (λ r. CountsOnlyWrites old new r) c.from_residual-in_err-more.result (reading_fault e)
    c.from_residual-in_err-more.ensures.1
    (no_writes (Unit {0}) old new (reading_fault e) (reading_unwritten e) c.steps.invariant.writes)

pub push_next_parts-requires : goal.push_next_parts-requires
push_next_parts-requires g c = record { some = c.in_ok-more.ensures.some c.if-branch.true }

pub returns-in_err-is_whole-clause-printed : goal.returns-in_err-is_whole-clause-printed
returns-in_err-is_whole-clause-printed g c = λ read given h.
    let d = passing_stepping in
    let i = c.steps.invariant in
    let f = c.in_err-is_whole.field-0.0 in
    let s = c.more.new.self in
    let next = g.R.Read.remaining (reader_of c.more.new.input) in
    let old = g.W.Write.contents (writer_of c.args.output.now) in
    let out = g.W.Write.contents (writer_of c.steps.output) in
    let st = i.stands read given h in
    let on = goes_on d (session_of c.steps.reader) (types_behind d st.has) s read next given c.in_ok-more.field-0
    c.if-branch.true (c.in_ok-more.ensures.filled read given st.has) in
    at_error (λ res. PrintsParts c.args.lines c.args.reader.now c.push_next_parts.new.reader read next given old out
    res) c.from_residual-in_err-is_whole.result f c.from_residual-in_err-is_whole.ensures.1
    (stops_so s (begun_at c.requires.between c.requires.begun i.styled) (c.in_ok-more.ensures.limits ∙ i.limits) next
    old out f h (still c.args.reader.now c.steps.reader s on.1 st.printed) i.out (c.in_err-is_whole.ensures.made read
    next given on.0))

pub returns-in_err-is_whole-clause-limits : goal.returns-in_err-is_whole-clause-limits
returns-in_err-is_whole-clause-limits g c =
    c.in_err-is_whole.ensures.limits ∙ c.in_ok-more.ensures.limits ∙ c.steps.invariant.limits

pub returns-in_err-is_whole-clause-reads : goal.returns-in_err-is_whole-clause-reads
returns-in_err-is_whole-clause-reads g c =
    let f = c.in_err-is_whole.field-0.0 in
    let old = failed_reads c.args.input.now in
    let new = failed_reads c.more.new.input in
    at_error (λ r. CountsOnlyReads old new r) c.from_residual-in_err-is_whole.result f
    c.from_residual-in_err-is_whole.ensures.1
    (no_reads (Unit {0}) old new f c.in_err-is_whole.ensures.unread.0
    (c.in_ok-more.ensures.counted ∙ c.steps.invariant.reads))

pub returns-in_err-is_whole-clause-writes : goal.returns-in_err-is_whole-clause-writes
returns-in_err-is_whole-clause-writes g c =
    let f = c.in_err-is_whole.field-0.0 in
    let old = failed_writes c.args.output.now in
    let new = failed_writes c.steps.output in
    at_error (λ r. CountsOnlyWrites old new r) c.from_residual-in_err-is_whole.result f
    c.from_residual-in_err-is_whole.ensures.1
    (no_writes (Unit {0}) old new f c.in_err-is_whole.ensures.unread.1 c.steps.invariant.writes)

pub returns-in_err-send_all-clause-printed : goal.returns-in_err-send_all-clause-printed
returns-in_err-send_all-clause-printed g c = λ read given h.
    let d = passing_stepping in
    let i = c.steps.invariant in
    let s = c.more.new.self in
    let q = c.push_next_parts.new.reader in
    let e = c.in_err-send_all.field-0.0 in
    let next = g.R.Read.remaining (reader_of c.more.new.input) in
    let old = g.W.Write.contents (writer_of c.args.output.now) in
    let mid = g.W.Write.contents (writer_of c.steps.output) in
    let new = g.W.Write.contents (writer_of c.send_all.new.self) in
    let st = i.stands read given h in
    let on = goes_on d (session_of c.steps.reader) (types_behind d st.has) s read next given c.in_ok-more.field-0
    c.if-branch.true (c.in_ok-more.ensures.filled read given st.has) in
    let m = rw c.clear.ensures.items at (c.in_ok-is_whole.ensures.made read next given on.0) in
    at_error (λ res. PrintsParts c.args.lines c.args.reader.now q read next given old new res)
    c.from_residual-in_err-send_all.result (writing_fault e) c.from_residual-in_err-send_all.ensures.1
    (rw c.in_err-send_all.ensures.fault
    (cut_step s q (begun_at c.requires.between c.requires.begun i.styled)
    (c.in_ok-is_whole.ensures.limits ∙ c.in_ok-more.ensures.limits ∙ i.limits) h
    (still c.args.reader.now c.steps.reader s on.1 st.printed) old mid new c.in_ok-is_whole.is_whole m
    c.in_ok-is_whole.ensures.between i.out (subst (λ (l : List ℕ). SentPrefix l mid new) c.deref-in-steps.ensures.value
    c.in_err-send_all.ensures.prefix)))

pub returns-in_err-send_all-clause-limits : goal.returns-in_err-send_all-clause-limits
returns-in_err-send_all-clause-limits g c =
    c.in_ok-is_whole.ensures.limits ∙ c.in_ok-more.ensures.limits ∙ c.steps.invariant.limits

pub returns-in_err-send_all-clause-reads : goal.returns-in_err-send_all-clause-reads
returns-in_err-send_all-clause-reads g c =
    let e = c.in_err-send_all.field-0.0 in
    let old = failed_reads c.args.input.now in
    let new = failed_reads c.more.new.input in
    at_error (λ r. CountsOnlyReads old new r) c.from_residual-in_err-send_all.result (writing_fault e)
    c.from_residual-in_err-send_all.ensures.1
    (no_reads (Unit {0}) old new (writing_fault e) (writing_unread e)
    (c.in_ok-more.ensures.counted ∙ c.steps.invariant.reads))

pub returns-in_err-send_all-clause-writes : goal.returns-in_err-send_all-clause-writes
returns-in_err-send_all-clause-writes g c =
    let e = c.in_err-send_all.field-0.0 in
    let old = failed_writes c.args.output.now in
    let new = failed_writes c.send_all.new.self in
    at_error (λ r. CountsOnlyWrites old new r) c.from_residual-in_err-send_all.result (writing_fault e)
    c.from_residual-in_err-send_all.ensures.1
    (write_counts old (failed_writes c.steps.output) new e c.in_err-send_all.ensures.fault c.steps.invariant.writes
    c.in_err-send_all.ensures.counted)

pub returns-then-is_whole-clause-printed : goal.returns-then-is_whole-clause-printed
returns-then-is_whole-clause-printed g c = λ read given h.
    let d = passing_stepping in
    let i = c.steps.invariant in
    let s = c.more.new.self in
    let q = c.push_next_parts.new.reader in
    let next = g.R.Read.remaining (reader_of c.more.new.input) in
    let old = g.W.Write.contents (writer_of c.args.output.now) in
    let mid = g.W.Write.contents (writer_of c.steps.output) in
    let new = g.W.Write.contents (writer_of c.send_all.new.self) in
    let st = i.stands read given h in
    let on = goes_on d (session_of c.steps.reader) (types_behind d st.has) s read next given c.in_ok-more.field-0
    c.if-branch.true (c.in_ok-more.ensures.filled read given st.has) in
    let m = rw c.if-is_whole.true at (rw c.clear.ensures.items at (c.in_ok-is_whole.ensures.made read next given on.0))
    in
    let made = c.push_next_parts.new.text.items in
    item_done s q (begun_at c.requires.between c.requires.begun i.styled)
    (c.in_ok-is_whole.ensures.limits ∙ c.in_ok-more.ensures.limits ∙ i.limits) h
    (still c.args.reader.now c.steps.reader s on.1 st.printed) old new m (c.in_ok-is_whole.ensures.between
    c.if-is_whole.true) (omega (arith, i.onward, on.1))
    (Appends-trans old mid new i.text made i.out
    (subst (λ (l : List ℕ). Appends mid new l) c.deref-in-steps.ensures.value c.in_ok-send_all.ensures.ok))

pub returns-then-is_whole-clause-between : goal.returns-then-is_whole-clause-between
returns-then-is_whole-clause-between g c = c.in_ok-is_whole.ensures.between c.if-is_whole.true

pub returns-then-is_whole-clause-limits : goal.returns-then-is_whole-clause-limits
returns-then-is_whole-clause-limits g c =
    c.in_ok-is_whole.ensures.limits ∙ c.in_ok-more.ensures.limits ∙ c.steps.invariant.limits

pub returns-then-is_whole-clause-reads : goal.returns-then-is_whole-clause-reads
returns-then-is_whole-clause-reads g c = c.in_ok-more.ensures.counted ∙ c.steps.invariant.reads

pub returns-then-is_whole-clause-writes : goal.returns-then-is_whole-clause-writes
returns-then-is_whole-clause-writes g c = c.in_ok-send_all.ensures.counted ∙ c.steps.invariant.writes

pub returns-in_err-flush_before_waiting-clause-printed : goal.returns-in_err-flush_before_waiting-clause-printed
returns-in_err-flush_before_waiting-clause-printed g c = λ read given h.
    let d = passing_stepping in
    let i = c.steps.invariant in
    let s = c.more.new.self in
    let q = c.push_next_parts.new.reader in
    let e = c.in_err-flush_before_waiting.field-0.0 in
    let next = g.R.Read.remaining (reader_of c.more.new.input) in
    let old = g.W.Write.contents (writer_of c.args.output.now) in
    let mid = g.W.Write.contents (writer_of c.steps.output) in
    let sent = g.W.Write.contents (writer_of c.send_all.new.self) in
    let new = g.W.Write.contents (writer_of c.flush_before_waiting.new.output) in
    let b = begun_at c.requires.between c.requires.begun i.styled in
    let st = i.stands read given h in
    let on = goes_on d (session_of c.steps.reader) (types_behind d st.has) s read next given c.in_ok-more.field-0
    c.if-branch.true (c.in_ok-more.ensures.filled read given st.has) in
    let m = rw c.if-is_whole.false at (rw c.clear.ensures.items at (c.in_ok-is_whole.ensures.made read next given
    on.0)) in
    let made = c.push_next_parts.new.text.items in
    let there = stands_next s q b (c.in_ok-is_whole.ensures.limits ∙ c.in_ok-more.ensures.limits ∙ i.limits) h
    (still c.args.reader.now c.steps.reader s on.1 st.printed) m in
    at_error (λ res. PrintsParts c.args.lines c.args.reader.now q read next given old new res)
    c.from_residual-in_err-flush_before_waiting.result (writing_fault e)
    c.from_residual-in_err-flush_before_waiting.ensures.1
    (rw c.in_err-flush_before_waiting.ensures.fault
    (unflushed q b next h there.printed old sent new
    (Appends-trans old mid sent i.text made i.out
    (subst (λ (l : List ℕ). Appends mid sent l) c.deref-in-steps.ensures.value c.in_ok-send_all.ensures.ok))
    c.in_err-flush_before_waiting.ensures.bytes))

pub returns-in_err-flush_before_waiting-clause-limits : goal.returns-in_err-flush_before_waiting-clause-limits
returns-in_err-flush_before_waiting-clause-limits g c =
    c.in_ok-is_whole.ensures.limits ∙ c.in_ok-more.ensures.limits ∙ c.steps.invariant.limits

pub returns-in_err-flush_before_waiting-clause-reads : goal.returns-in_err-flush_before_waiting-clause-reads
returns-in_err-flush_before_waiting-clause-reads g c =
    let e = c.in_err-flush_before_waiting.field-0.0 in
    let old = failed_reads c.args.input.now in
    let new = failed_reads c.more.new.input in
    at_error (λ r. CountsOnlyReads old new r) c.from_residual-in_err-flush_before_waiting.result (writing_fault e)
    c.from_residual-in_err-flush_before_waiting.ensures.1
    (no_reads (Unit {0}) old new (writing_fault e) (writing_unread e)
    (c.in_ok-more.ensures.counted ∙ c.steps.invariant.reads))

pub returns-in_err-flush_before_waiting-clause-writes : goal.returns-in_err-flush_before_waiting-clause-writes
returns-in_err-flush_before_waiting-clause-writes g c =
    let e = c.in_err-flush_before_waiting.field-0.0 in
    let old = failed_writes c.args.output.now in
    let new = failed_writes c.flush_before_waiting.new.output in
    at_error (λ r. CountsOnlyWrites old new r) c.from_residual-in_err-flush_before_waiting.result (writing_fault e)
    c.from_residual-in_err-flush_before_waiting.ensures.1
    (write_counts old (failed_writes c.send_all.new.self) new e c.in_err-flush_before_waiting.ensures.fault
    (c.in_ok-send_all.ensures.counted ∙ c.steps.invariant.writes) c.in_err-flush_before_waiting.ensures.counted)

pub steps-preserved : goal.steps-preserved
steps-preserved g c =
    let d = passing_stepping in
    let i = c.steps.invariant in
    let s = c.more.new.self in
    let q = c.push_next_parts.new.reader in
    let next = g.R.Read.remaining (reader_of c.more.new.input) in
    let old = g.W.Write.contents (writer_of c.args.output.now) in
    let mid = g.W.Write.contents (writer_of c.steps.output) in
    let sent = g.W.Write.contents (writer_of c.send_all.new.self) in
    let new = g.W.Write.contents (writer_of c.flush_before_waiting.new.output) in
    let limits = c.in_ok-is_whole.ensures.limits ∙ c.in_ok-more.ensures.limits ∙ i.limits in
    let b = begun_at c.requires.between c.requires.begun i.styled in
    let made = c.push_next_parts.new.text.items in
    let so = c.requires.so_far in
    let st = i.stands so.read so.given so.has in
    let on = goes_on d (session_of c.steps.reader) (types_behind d st.has) s so.read next so.given c.in_ok-more.field-0
    c.if-branch.true (c.in_ok-more.ensures.filled so.read so.given st.has) in
    let onward = (c.in_ok-is_whole.ensures.made so.read next so.given on.0).takes.onward in
    record {
      limits = limits;
      reads = c.in_ok-more.ensures.counted ∙ i.reads;
      writes = c.in_ok-flush_before_waiting.ensures.counted ∙ c.in_ok-send_all.ensures.counted ∙ i.writes;
      styled = i.styled;
      onward = omega (arith, i.onward, on.1, onward);
      text = i.text ++ made;
      out = Appends-kept old sent new (i.text ++ made)
          (Appends-trans old mid sent i.text made i.out
          (subst (λ (l : List ℕ). Appends mid sent l) c.deref-in-steps.ensures.value c.in_ok-send_all.ensures.ok))
          c.in_ok-flush_before_waiting.ensures.bytes;
      stands = λ read given h.
          let st = i.stands read given h in
          let on = goes_on d (session_of c.steps.reader) (types_behind d st.has) s read next given
          c.in_ok-more.field-0 c.if-branch.true (c.in_ok-more.ensures.filled read given st.has) in
          stands_next s q b limits h (still c.args.reader.now c.steps.reader s on.1 st.printed)
          (rw c.if-is_whole.false at (rw c.clear.ensures.items at (c.in_ok-is_whole.ensures.made read next given
          on.0)));
    }

pub steps-smaller : goal.steps-smaller
steps-smaller g c =
    let d = passing_stepping in
    let so = c.requires.so_far in
    let st = c.steps.invariant.stands so.read so.given so.has in
    let s = c.more.new.self in
    let q = c.push_next_parts.new.reader in
    let next = g.R.Read.remaining (reader_of c.more.new.input) in
    let on = goes_on d (session_of c.steps.reader) (types_behind d st.has) s so.read next so.given c.in_ok-more.field-0
    c.if-branch.true (c.in_ok-more.ensures.filled so.read so.given st.has) in
    let takes = (c.in_ok-is_whole.ensures.made so.read next so.given on.0).takes in
    let onward = takes.onward in
    texts_fall d (stands false nothing_meant (session_of q)) c.steps.reader (taken_of (session_of c.steps.reader))
    (c.in_ok-is_whole.ensures.limits ∙ c.in_ok-more.ensures.limits) takes.after (omega (arith, on.1, onward))

pub returns-clause-printed : goal.returns-clause-printed
returns-clause-printed g c = λ read given h bytes known start o.
    let d = passing_stepping in
    let i = c.steps.invariant in
    let s = c.steps.reader in
    let next = g.R.Read.remaining (reader_of c.more.new.input) in
    let st = i.stands read given h in
    let end = has_ended d (session_of s) (types_behind d st.has) c.more.new.self read next given c.in_ok-more.field-0
    c.if-branch.false (c.in_ok-more.ensures.filled read given st.has) in
    absurd (not_ended s (begun_at c.requires.between c.requires.begun i.styled) i.limits next bytes h known
    (end.0 bytes known))

pub returns-clause-limits : goal.returns-clause-limits
returns-clause-limits g c = c.in_ok-more.ensures.limits ∙ c.steps.invariant.limits

pub returns-clause-reads : goal.returns-clause-reads
returns-clause-reads g c = c.in_ok-more.ensures.counted ∙ c.steps.invariant.reads

pub returns-clause-writes : goal.returns-clause-writes
returns-clause-writes g c = c.steps.invariant.writes
