-- From turn to turn the definitions of what was read are appended, and each end is that of the stream.
use Rattle.std.proofs.Common.{Bool, Err, ◌∙◌, ◌≤◌, arith, refl, subst, sym}
use Rattle.gob_stream.specs.Bounds.{Bounds, greatest_depth, within_trees}
use Rattle.gob_stream.specs.Calls.Ends.{failed_reads, reader_of}
use Rattle.gob_stream.specs.Stepping.{StandsBy}
use Rattle.gob_go.specs.Calls.Reader.{session_of}
use Rattle.gob_go.specs.Calls.Session.{taken_of}
use Rattle.gob_go.specs.GoStepping.{go_stepping}
use Rattle.gob_stream.proofs.Reader.ReaderOfLaws.{goes_on, has_ended}
use Rattle.gob_tool.specs.Fault.{reading_fault}
use Rattle.gob_tool.specs.Showing.{CountsReadFaults}
use Rattle.gob_tool.specs.declared.fault.ToolFault.TheVariants as fault
use Rattle.gob_tool.proofs.EndLaws.{at_error, reads_unread, reading_unread, stop_faults}
use Rattle.gob_tool.proofs.TextLaws.{texts_fall}
use Rattle.gob_split.specs.Definitions.{DefinitionsAnswers}
use Rattle.gob_split.proofs.DefinitionsLaws.{appends_first, appends_still, appends_stops, appends_turn, appends_whole}
use Rattle.gob_split.proofs.NextLaws.{took, took_none}
use Rattle.gob_split.proofs.definitions.push_definitions.Goals as goal

-- how deep a value may be
shallow : (L : Bounds) → (within_trees L).depth ≤ greatest_depth
shallow L = omega arith

pub returns-in_err-reader-clause-defined : goal.returns-in_err-reader-clause-defined
returns-in_err-reader-clause-defined g c = λ bytes known.
    let now = g.R.Read.remaining (reader_of c.args.input.now) in
    let old = c.args.defining.now.items in
    at_error (λ r. DefinitionsAnswers (within_trees c.args.limits) bytes now old old r) c.from_residual.result
    fault.Memory c.from_residual.ensures.1 tt

pub items-init : goal.items-init
items-init g c =
    let read = g.R.Read.remaining (reader_of c.args.input.now) in
    record {
      limits = c.in_ok-reader.ensures.limits;
      reads = refl;
      so = appends_first read c.args.defining.now.items c.in_ok-reader.ensures.stands
          (c.in_ok-reader.ensures.new read);
    }

pub returns-in_err-fill-clause-defined : goal.returns-in_err-fill-clause-defined
returns-in_err-fill-clause-defined g c = λ bytes known.
    let i = c.items.invariant in
    let s = i.so in
    let e = c.in_err-fill.field-0.0 in
    let L = c.args.limits in
    let read = g.R.Read.remaining (reader_of c.args.input.now) in
    let next = g.R.Read.remaining (reader_of c.fill.new.input) in
    at_error (λ r. DefinitionsAnswers (within_trees L) bytes next c.args.defining.now.items c.items.defining.items r)
    c.from_residual-in_err-fill.result (reading_fault e) c.from_residual-in_err-fill.ensures.1
    (appends_stops s L (session_of c.items.reader) s.has.gave.table next e i.limits i.limits (shallow L)
    (c.in_err-fill.ensures.filled read s.given s.has) bytes known)

pub returns-in_err-fill-clause-reads : goal.returns-in_err-fill-clause-reads
returns-in_err-fill-clause-reads g c =
    let i = c.items.invariant in
    let e = c.in_err-fill.field-0.0 in
    at_error (λ r. CountsReadFaults (failed_reads c.args.input.now) (failed_reads c.fill.new.input) r)
    c.from_residual-in_err-fill.result (reading_fault e) c.from_residual-in_err-fill.ensures.1
    (stop_faults Bool (failed_reads c.args.input.now) (failed_reads c.items.input) (failed_reads c.fill.new.input)
    e i.reads c.in_err-fill.ensures.counted)

pub take_next-requires-clause-so_far : goal.take_next-requires-clause-so_far
take_next-requires-clause-so_far g c =
    let s = c.items.invariant.so in
    let read = g.R.Read.remaining (reader_of c.args.input.now) in
    let next = g.R.Read.remaining (reader_of c.fill.new.input) in
    let on = goes_on go_stepping (session_of c.items.reader) s.has.gave.table c.fill.new.self read next s.given
    c.in_ok-fill.field-0
    c.if-branch.true (c.in_ok-fill.ensures.filled read s.given s.has) in
    record {
      read = read;
      now = next;
      given = s.given;
      has = on.0;
      stands = subst (λ z. StandsBy go_stepping z) (sym (c.in_ok-fill.ensures.same c.if-branch.true)) s.stands;
    }

pub returns-in_err-take_next-clause-defined : goal.returns-in_err-take_next-clause-defined
returns-in_err-take_next-clause-defined g c = λ bytes known.
    let i = c.items.invariant in
    let s = i.so in
    let e = c.in_err-take_next.field-0.0 in
    let L = c.args.limits in
    let read = g.R.Read.remaining (reader_of c.args.input.now) in
    let next = g.R.Read.remaining (reader_of c.fill.new.input) in
    let on = goes_on go_stepping (session_of c.items.reader) s.has.gave.table c.fill.new.self read next s.given
    c.in_ok-fill.field-0
    c.if-branch.true (c.in_ok-fill.ensures.filled read s.given s.has) in
    let stop = c.in_err-take_next.ensures.taken read next s.given on.0 in
    at_error (λ r. DefinitionsAnswers (within_trees L) bytes next c.args.defining.now.items c.items.defining.items r)
    c.from_residual-in_err-take_next.result (reading_fault e) c.from_residual-in_err-take_next.ensures.1
    (appends_stops s L (session_of c.fill.new.self) stop.table next e (c.in_ok-fill.ensures.limits ∙ i.limits) i.limits
    (shallow L) stop.stops bytes known)

pub returns-in_err-take_next-clause-reads : goal.returns-in_err-take_next-clause-reads
returns-in_err-take_next-clause-reads g c =
    let e = c.in_err-take_next.field-0.0 in
    at_error (λ r. CountsReadFaults (failed_reads c.args.input.now) (failed_reads c.fill.new.input) r)
    c.from_residual-in_err-take_next.result (reading_fault e) c.from_residual-in_err-take_next.ensures.1
    (reads_unread (failed_reads c.args.input.now) (failed_reads c.fill.new.input) (Err (reading_fault e))
    (c.in_ok-fill.ensures.counted ∙ c.items.invariant.reads) (reading_unread e c.in_err-take_next.ensures.unread))

pub returns-in_err-push_first-clause-defined : goal.returns-in_err-push_first-clause-defined
returns-in_err-push_first-clause-defined g c = λ bytes known.
    let next = g.R.Read.remaining (reader_of c.fill.new.input) in
    at_error (λ r. DefinitionsAnswers (within_trees c.args.limits) bytes next c.args.defining.now.items
    c.push_first.new.defining.items r) c.from_residual-in_err-push_first.result fault.Memory
    c.from_residual-in_err-push_first.ensures.1 tt

pub returns-in_err-push_first-clause-reads : goal.returns-in_err-push_first-clause-reads
returns-in_err-push_first-clause-reads g c =
    at_error (λ r. CountsReadFaults (failed_reads c.args.input.now) (failed_reads c.fill.new.input) r)
    c.from_residual-in_err-push_first.result fault.Memory c.from_residual-in_err-push_first.ensures.1
    (c.in_ok-fill.ensures.counted ∙ c.items.invariant.reads)

pub returns-clause-defined : goal.returns-clause-defined
returns-clause-defined g c = λ bytes known.
    let i = c.items.invariant in
    let s = i.so in
    let L = c.args.limits in
    let read = g.R.Read.remaining (reader_of c.args.input.now) in
    let next = g.R.Read.remaining (reader_of c.fill.new.input) in
    let end = has_ended go_stepping (session_of c.items.reader) s.has.gave.table c.fill.new.self read next s.given
    c.in_ok-fill.field-0 c.if-branch.false (c.in_ok-fill.ensures.filled read s.given s.has) in
    appends_whole s L i.limits (shallow L) bytes (end.0 bytes known) known

pub returns-clause-reads : goal.returns-clause-reads
returns-clause-reads g c = c.in_ok-fill.ensures.counted ∙ c.items.invariant.reads

pub items-smaller : goal.items-smaller
items-smaller g c =
    let i = c.items.invariant in
    let s = i.so in
    let read = g.R.Read.remaining (reader_of c.args.input.now) in
    let next = g.R.Read.remaining (reader_of c.fill.new.input) in
    let on = goes_on go_stepping (session_of c.items.reader) s.has.gave.table c.fill.new.self read next s.given
    c.in_ok-fill.field-0
    c.if-branch.true (c.in_ok-fill.ensures.filled read s.given s.has) in
    let t = took c.in_ok-take_next.field-0 c.if-not-branch.false
    (c.in_ok-take_next.ensures.taken read next s.given on.0) in
    texts_fall go_stepping c.in_ok-take_next.ensures.stands c.items.reader (taken_of (session_of c.items.reader))
    (c.in_ok-take_next.ensures.limits ∙ c.in_ok-fill.ensures.limits) t.after (omega (arith, on.1, t.onward))

pub items-preserved : goal.items-preserved
items-preserved g c =
    let i = c.items.invariant in
    let s = i.so in
    let read = g.R.Read.remaining (reader_of c.args.input.now) in
    let next = g.R.Read.remaining (reader_of c.fill.new.input) in
    let on = goes_on go_stepping (session_of c.items.reader) s.has.gave.table c.fill.new.self read next s.given
    c.in_ok-fill.field-0
    c.if-branch.true (c.in_ok-fill.ensures.filled read s.given s.has) in
    let t = took c.in_ok-take_next.field-0 c.if-not-branch.false
    (c.in_ok-take_next.ensures.taken read next s.given on.0) in
    record {
      limits = c.in_ok-take_next.ensures.limits ∙ c.in_ok-fill.ensures.limits ∙ i.limits;
      reads = c.in_ok-fill.ensures.counted ∙ i.reads;
      so = appends_turn s c.in_ok-take_next.ensures.stands
          (c.in_ok-take_next.ensures.limits ∙ c.in_ok-fill.ensures.limits) t c.in_ok-push_first.ensures;
    }

pub items-smaller-then-not-branch : goal.items-smaller-then-not-branch
items-smaller-then-not-branch g c =
    let i = c.items.invariant in
    let s = i.so in
    let read = g.R.Read.remaining (reader_of c.args.input.now) in
    let next = g.R.Read.remaining (reader_of c.fill.new.input) in
    let on = goes_on go_stepping (session_of c.items.reader) s.has.gave.table c.fill.new.self read next s.given
    c.in_ok-fill.field-0
    c.if-branch.true (c.in_ok-fill.ensures.filled read s.given s.has) in
    let t = took_none c.take_next.new.text c.in_ok-take_next.field-0 c.if-not-branch.true
    (c.in_ok-take_next.ensures.taken read next s.given on.0) in
    texts_fall go_stepping c.in_ok-take_next.ensures.stands c.items.reader (taken_of (session_of c.items.reader))
    (c.in_ok-take_next.ensures.limits ∙ c.in_ok-fill.ensures.limits) t.after (omega (arith, on.1, t.onward))

pub items-preserved-then-not-branch : goal.items-preserved-then-not-branch
items-preserved-then-not-branch g c =
    let i = c.items.invariant in
    let s = i.so in
    let read = g.R.Read.remaining (reader_of c.args.input.now) in
    let next = g.R.Read.remaining (reader_of c.fill.new.input) in
    let on = goes_on go_stepping (session_of c.items.reader) s.has.gave.table c.fill.new.self read next s.given
    c.in_ok-fill.field-0
    c.if-branch.true (c.in_ok-fill.ensures.filled read s.given s.has) in
    let t = took_none c.take_next.new.text c.in_ok-take_next.field-0 c.if-not-branch.true
    (c.in_ok-take_next.ensures.taken read next s.given on.0) in
    record {
      limits = c.in_ok-take_next.ensures.limits ∙ c.in_ok-fill.ensures.limits ∙ i.limits;
      reads = c.in_ok-fill.ensures.counted ∙ i.reads;
      so = appends_still s c.in_ok-take_next.ensures.stands
          (c.in_ok-take_next.ensures.limits ∙ c.in_ok-fill.ensures.limits) t.after;
    }

pub push_first-requires : goal.push_first-requires
push_first-requires g c =
    let i = c.items.invariant in
    let s = i.so in
    let read = g.R.Read.remaining (reader_of c.args.input.now) in
    let next = g.R.Read.remaining (reader_of c.fill.new.input) in
    let on = goes_on go_stepping (session_of c.items.reader) s.has.gave.table c.fill.new.self read next s.given
    c.in_ok-fill.field-0
    c.if-branch.true (c.in_ok-fill.ensures.filled read s.given s.has) in
    let t = took c.in_ok-take_next.field-0 c.if-not-branch.false
    (c.in_ok-take_next.ensures.taken read next s.given on.0) in
    t.within
