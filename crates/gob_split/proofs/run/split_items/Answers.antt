-- From turn to turn the texts of what was read are put into parts, and each end is that of the stream.
use Rattle.std.proofs.Common.{Bool, Err, ◌∙◌, ◌++◌, arith, refl, subst, sym}
use Rattle.gob_stream.specs.Bounds.{Bounds, within_trees}
use Rattle.gob_stream.specs.Calls.Ends.{failed_reads, reader_of}
use Rattle.gob_stream.specs.Stepping.{StandsBy}
use Rattle.gob_filled.specs.Outcome.{profile}
use Rattle.gob_go.specs.Calls.Reader.{session_of}
use Rattle.gob_go.specs.Calls.Session.{taken_of}
use Rattle.gob_go.specs.GoStepping.{go_stepping}
use Rattle.gob_stream.proofs.Reader.ReaderOfLaws.{goes_on, has_ended}
use Rattle.gob_tool.specs.Fault.{reading_fault}
use Rattle.gob_tool.specs.Showing.{CountsReadFaults}
use Rattle.gob_tool.specs.declared.fault.ToolFault.TheVariants as fault
use Rattle.gob_tool.proofs.EndLaws.{at_error, reads_unread, reading_unread, stop_faults}
use Rattle.gob_tool.proofs.TextLaws.{shown_none, texts_fall}
use Rattle.gob_split.specs.Running.{IsWritten, OfParts, SplitAnswers}
use Rattle.gob_split.proofs.NextLaws.{took, took_none}
use Rattle.gob_split.proofs.RunLaws.{none_split, split_first, split_still, split_stops, split_turn, split_unput}
use Rattle.gob_split.proofs.RunLaws.{split_whole}
use Rattle.gob_split.proofs.run.split_items.Goals as goal

pub returns-in_err-reader-clause-split : goal.returns-in_err-reader-clause-split
returns-in_err-reader-clause-split g c = λ bytes before known old.
    let L = within_trees c.args.limits in
    let Are = g.P.Parts.are c.args.parts.now in
    let now = g.R.Read.remaining (reader_of c.args.input.now) in
    at_error (λ r. SplitAnswers c.args.size L bytes now (λ made. Are (before ++ made)) r) c.from_residual.result
    fault.Memory c.from_residual.ensures.1
    (shown_none profile L bytes now (λ T items. OfParts c.args.size L bytes (λ made. Are (before ++ made)) items)
    (λ T items. OfParts c.args.size L bytes (IsWritten (λ made. Are (before ++ made))) items)
    c.in_err-reader.ensures.nothing known (none_split c.args.size L bytes Are before old))

pub items-init : goal.items-init
items-init g c =
    let read = g.R.Read.remaining (reader_of c.args.input.now) in
    record {
      limits = c.in_ok-reader.ensures.limits;
      reads = refl;
      so = split_first read (g.P.Parts.are c.args.parts.now) c.in_ok-reader.ensures.stands
          (c.in_ok-reader.ensures.new read) c.new-cutter.ensures;
    }

pub returns-in_err-fill-clause-split : goal.returns-in_err-fill-clause-split
returns-in_err-fill-clause-split g c = λ bytes before known old.
    let i = c.items.invariant in
    let s = i.so in
    let e = c.in_err-fill.field-0.0 in
    let read = g.R.Read.remaining (reader_of c.args.input.now) in
    let next = g.R.Read.remaining (reader_of c.fill.new.input) in
    at_error (λ r. SplitAnswers c.args.size (within_trees c.args.limits) bytes next
    (λ made. g.P.Parts.are c.items.parts (before ++ made)) r) c.from_residual-in_err-fill.result (reading_fault e)
    c.from_residual-in_err-fill.ensures.1
    (split_stops s c.args.limits (session_of c.items.reader) s.has.gave.table next e i.limits i.limits
    (c.in_err-fill.ensures.filled read s.given s.has) bytes before known old)

pub returns-in_err-fill-clause-reads : goal.returns-in_err-fill-clause-reads
returns-in_err-fill-clause-reads g c =
    let i = c.items.invariant in
    let e = c.in_err-fill.field-0.0 in
    at_error (λ r. CountsReadFaults (failed_reads c.args.input.now) (failed_reads c.fill.new.input) r)
    c.from_residual-in_err-fill.result (reading_fault e) c.from_residual-in_err-fill.ensures.1
    (stop_faults Bool (failed_reads c.args.input.now) (failed_reads c.items.input) (failed_reads c.fill.new.input)
    e i.reads c.in_err-fill.ensures.counted)

pub take_next-requires-clause-so_far : goal.take_next-requires-clause-so_far
take_next-requires-clause-so_far g c =
    let s = c.items.invariant.so in
    let read = g.R.Read.remaining (reader_of c.args.input.now) in
    let next = g.R.Read.remaining (reader_of c.fill.new.input) in
    let on = goes_on go_stepping (session_of c.items.reader) s.has.gave.table c.fill.new.self read next s.given
    c.in_ok-fill.field-0
    c.if-branch.true (c.in_ok-fill.ensures.filled read s.given s.has) in
    record {
      read = read;
      now = next;
      given = s.given;
      has = on.0;
      stands = subst (λ z. StandsBy go_stepping z) (sym (c.in_ok-fill.ensures.same c.if-branch.true)) s.stands;
    }

pub returns-in_err-take_next-clause-split : goal.returns-in_err-take_next-clause-split
returns-in_err-take_next-clause-split g c = λ bytes before known old.
    let i = c.items.invariant in
    let s = i.so in
    let e = c.in_err-take_next.field-0.0 in
    let read = g.R.Read.remaining (reader_of c.args.input.now) in
    let next = g.R.Read.remaining (reader_of c.fill.new.input) in
    let on = goes_on go_stepping (session_of c.items.reader) s.has.gave.table c.fill.new.self read next s.given
    c.in_ok-fill.field-0
    c.if-branch.true (c.in_ok-fill.ensures.filled read s.given s.has) in
    let stop = c.in_err-take_next.ensures.taken read next s.given on.0 in
    at_error (λ r. SplitAnswers c.args.size (within_trees c.args.limits) bytes next
    (λ made. g.P.Parts.are c.items.parts (before ++ made)) r) c.from_residual-in_err-take_next.result (reading_fault e)
    c.from_residual-in_err-take_next.ensures.1
    (split_stops s c.args.limits (session_of c.fill.new.self) stop.table next e (c.in_ok-fill.ensures.limits ∙ i.limits)
    i.limits stop.stops bytes before known old)

pub returns-in_err-take_next-clause-reads : goal.returns-in_err-take_next-clause-reads
returns-in_err-take_next-clause-reads g c =
    let e = c.in_err-take_next.field-0.0 in
    at_error (λ r. CountsReadFaults (failed_reads c.args.input.now) (failed_reads c.fill.new.input) r)
    c.from_residual-in_err-take_next.result (reading_fault e) c.from_residual-in_err-take_next.ensures.1
    (reads_unread (failed_reads c.args.input.now) (failed_reads c.fill.new.input) (Err (reading_fault e))
    (c.in_ok-fill.ensures.counted ∙ c.items.invariant.reads) (reading_unread e c.in_err-take_next.ensures.unread))

pub returns-in_err-put-clause-split : goal.returns-in_err-put-clause-split
returns-in_err-put-clause-split g c = λ bytes before known old.
    let i = c.items.invariant in
    let s = i.so in
    let f = c.in_err-put.field-0.0 in
    let read = g.R.Read.remaining (reader_of c.args.input.now) in
    let next = g.R.Read.remaining (reader_of c.fill.new.input) in
    let on = goes_on go_stepping (session_of c.items.reader) s.has.gave.table c.fill.new.self read next s.given
    c.in_ok-fill.field-0
    c.if-branch.true (c.in_ok-fill.ensures.filled read s.given s.has) in
    let t = took c.in_ok-take_next.field-0 c.if-not-branch.false
    (c.in_ok-take_next.ensures.taken read next s.given on.0) in
    let New = g.P.Parts.are c.put.new.parts in
    at_error (λ r. SplitAnswers c.args.size (within_trees c.args.limits) bytes next (λ made. New (before ++ made)) r)
    c.from_residual-in_err-put.result f c.from_residual-in_err-put.ensures.1
    (subst (λ (L : Bounds). SplitAnswers c.args.size (within_trees L) bytes next (λ made. New (before ++ made)) (Err f))
    i.limits
    (split_unput s c.in_ok-take_next.ensures.stands (c.in_ok-take_next.ensures.limits ∙ c.in_ok-fill.ensures.limits) New
    c.put.new.self f t (c.in_ok-fill.ensures.same c.if-branch.true) on.0 bytes before known old
    (λ texts full last k out. c.in_err-put.ensures.put c.args.size texts full last before k out)))

pub returns-in_err-put-clause-reads : goal.returns-in_err-put-clause-reads
returns-in_err-put-clause-reads g c =
    let f = c.in_err-put.field-0.0 in
    at_error (λ r. CountsReadFaults (failed_reads c.args.input.now) (failed_reads c.fill.new.input) r)
    c.from_residual-in_err-put.result f c.from_residual-in_err-put.ensures.1
    (reads_unread (failed_reads c.args.input.now) (failed_reads c.fill.new.input) (Err f)
    (c.in_ok-fill.ensures.counted ∙ c.items.invariant.reads) c.in_err-put.ensures.unread)

pub returns-clause-split : goal.returns-clause-split
returns-clause-split g c = λ bytes before known old.
    let i = c.items.invariant in
    let s = i.so in
    let read = g.R.Read.remaining (reader_of c.args.input.now) in
    let next = g.R.Read.remaining (reader_of c.fill.new.input) in
    let end = has_ended go_stepping (session_of c.items.reader) s.has.gave.table c.fill.new.self read next s.given
    c.in_ok-fill.field-0 c.if-branch.false (c.in_ok-fill.ensures.filled read s.given s.has) in
    split_whole s c.args.limits i.limits bytes (end.0 bytes known) before known old

pub returns-clause-reads : goal.returns-clause-reads
returns-clause-reads g c = c.in_ok-fill.ensures.counted ∙ c.items.invariant.reads

pub items-smaller : goal.items-smaller
items-smaller g c =
    let i = c.items.invariant in
    let s = i.so in
    let read = g.R.Read.remaining (reader_of c.args.input.now) in
    let next = g.R.Read.remaining (reader_of c.fill.new.input) in
    let on = goes_on go_stepping (session_of c.items.reader) s.has.gave.table c.fill.new.self read next s.given
    c.in_ok-fill.field-0
    c.if-branch.true (c.in_ok-fill.ensures.filled read s.given s.has) in
    let t = took c.in_ok-take_next.field-0 c.if-not-branch.false
    (c.in_ok-take_next.ensures.taken read next s.given on.0) in
    texts_fall go_stepping c.in_ok-take_next.ensures.stands c.items.reader (taken_of (session_of c.items.reader))
    (c.in_ok-take_next.ensures.limits ∙ c.in_ok-fill.ensures.limits) t.after (omega (arith, on.1, t.onward))

pub items-preserved : goal.items-preserved
items-preserved g c =
    let i = c.items.invariant in
    let s = i.so in
    let read = g.R.Read.remaining (reader_of c.args.input.now) in
    let next = g.R.Read.remaining (reader_of c.fill.new.input) in
    let on = goes_on go_stepping (session_of c.items.reader) s.has.gave.table c.fill.new.self read next s.given
    c.in_ok-fill.field-0
    c.if-branch.true (c.in_ok-fill.ensures.filled read s.given s.has) in
    let t = took c.in_ok-take_next.field-0 c.if-not-branch.false
    (c.in_ok-take_next.ensures.taken read next s.given on.0) in
    record {
      limits = c.in_ok-take_next.ensures.limits ∙ c.in_ok-fill.ensures.limits ∙ i.limits;
      reads = c.in_ok-fill.ensures.counted ∙ i.reads;
      so = split_turn s c.in_ok-take_next.ensures.stands
          (c.in_ok-take_next.ensures.limits ∙ c.in_ok-fill.ensures.limits) t
          (λ texts full last before k out. c.in_ok-put.ensures.put c.args.size texts full last before k out);
    }

pub items-smaller-then-not-branch : goal.items-smaller-then-not-branch
items-smaller-then-not-branch g c =
    let i = c.items.invariant in
    let s = i.so in
    let read = g.R.Read.remaining (reader_of c.args.input.now) in
    let next = g.R.Read.remaining (reader_of c.fill.new.input) in
    let on = goes_on go_stepping (session_of c.items.reader) s.has.gave.table c.fill.new.self read next s.given
    c.in_ok-fill.field-0
    c.if-branch.true (c.in_ok-fill.ensures.filled read s.given s.has) in
    let t = took_none c.take_next.new.text c.in_ok-take_next.field-0 c.if-not-branch.true
    (c.in_ok-take_next.ensures.taken read next s.given on.0) in
    texts_fall go_stepping c.in_ok-take_next.ensures.stands c.items.reader (taken_of (session_of c.items.reader))
    (c.in_ok-take_next.ensures.limits ∙ c.in_ok-fill.ensures.limits) t.after (omega (arith, on.1, t.onward))

pub items-preserved-then-not-branch : goal.items-preserved-then-not-branch
items-preserved-then-not-branch g c =
    let i = c.items.invariant in
    let s = i.so in
    let read = g.R.Read.remaining (reader_of c.args.input.now) in
    let next = g.R.Read.remaining (reader_of c.fill.new.input) in
    let on = goes_on go_stepping (session_of c.items.reader) s.has.gave.table c.fill.new.self read next s.given
    c.in_ok-fill.field-0
    c.if-branch.true (c.in_ok-fill.ensures.filled read s.given s.has) in
    let t = took_none c.take_next.new.text c.in_ok-take_next.field-0 c.if-not-branch.true
    (c.in_ok-take_next.ensures.taken read next s.given on.0) in
    record {
      limits = c.in_ok-take_next.ensures.limits ∙ c.in_ok-fill.ensures.limits ∙ i.limits;
      reads = c.in_ok-fill.ensures.counted ∙ i.reads;
      so = split_still s c.in_ok-take_next.ensures.stands
          (c.in_ok-take_next.ensures.limits ∙ c.in_ok-fill.ensures.limits) t.after;
    }

pub put-requires : goal.put-requires
put-requires g c =
    let i = c.items.invariant in
    let s = i.so in
    let read = g.R.Read.remaining (reader_of c.args.input.now) in
    let next = g.R.Read.remaining (reader_of c.fill.new.input) in
    let on = goes_on go_stepping (session_of c.items.reader) s.has.gave.table c.fill.new.self read next s.given
    c.in_ok-fill.field-0
    c.if-branch.true (c.in_ok-fill.ensures.filled read s.given s.has) in
    let t = took c.in_ok-take_next.field-0 c.if-not-branch.false
    (c.in_ok-take_next.ensures.taken read next s.given on.0) in
    t.within
