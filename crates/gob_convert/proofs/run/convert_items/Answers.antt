-- From turn to turn the values of the items that were read are converted, and each end is that of the stream.
use Rattle.std.proofs.Common.{◌∙◌, Bool, Err, Ok, arith, refl, subst}
use Rattle.gob_types.specs.Defined.{types}
use Rattle.gob_stream.specs.Bounds.{Bounds, within_trees}
use Rattle.gob_stream.specs.Calls.Ends.{failed_reads, failed_writes, reader_of, writer_of}
use Rattle.gob_stream.proofs.Reader.ReaderOfLaws.{goes_on, has_ended}
use Rattle.gob_go.specs.Calls.Reader.{session_of}
use Rattle.gob_go.specs.Calls.Session.{limits_of, taken_of}
use Rattle.gob_go.specs.GoStepping.{go_stepping}
use Rattle.gob_tool.specs.Ending.{CountsOnlyWrites}
use Rattle.gob_tool.specs.Fault.{reading_fault}
use Rattle.gob_tool.specs.Showing.{CountsReadFaults}
use Rattle.gob_tool.proofs.EndLaws.{at_error, fault_at, stop_faults}
use Rattle.gob_tool.proofs.TextLaws.{texts_fall}
use Rattle.gob_convert.specs.Faults.{IsBefore, OfRun}
use Rattle.gob_convert.specs.Running.{ConvertsBehind}
use Rattle.gob_convert.specs.declared.fault.ConvertFault.TheVariants as stop
use Rattle.gob_convert.proofs.ConvertingLaws.{convert_unread, converts_read, converts_stopped, converts_whole}
use Rattle.gob_convert.proofs.ConvertingLaws.{knows_first}
use Rattle.gob_convert.proofs.ConvertingLaws.{knows_read, puts_first, reading_own, reading_writes}
use Rattle.gob_convert.proofs.run.convert_items.Goals as goal

pub items-init : goal.items-init
unfolding knows_first
items-init g c =
    let r = c.requires in
    let W = types c.args.target.now.table in
    let knows = knows_first r.new r.stands (λ T. r.known T W c.args.target.now.id) in
    record {
      limits = refl;
      reads = refl;
      writes = refl;
      knows = knows;
      so = λ items out start h sent.
          record { knows = knows; puts = puts_first h sent r.limits r.fits r.none refl };
    }

pub returns-in_err-fill-clause-converted : goal.returns-in_err-fill-clause-converted
returns-in_err-fill-clause-converted g c = λ items out bytes start h sent known.
    let i = c.items.invariant in
    let s = i.so items out start h sent in
    let e = c.in_err-fill.field-0.0 in
    let read = g.R.Read.remaining (reader_of c.args.input.now) in
    let next = g.R.Read.remaining (reader_of c.fill.new.input) in
    let W = types c.args.target.now.table in
    at_error (λ r. ConvertsBehind c.args.target.now.all (within_trees (limits_of (session_of c.args.reader.now))) bytes
    next items W c.args.target.now.id start (g.W.Write.contents (writer_of c.items.output))
    c.args.conversion.now.left_out c.items.conversion.left_out r)
    c.from_residual.result (stop.Run (reading_fault e)) c.from_residual.ensures.1
    (subst (λ (L : Bounds). ConvertsBehind c.args.target.now.all (within_trees L) bytes next items W
    c.args.target.now.id start (g.W.Write.contents (writer_of c.items.output)) c.args.conversion.now.left_out
    c.items.conversion.left_out (Err (stop.Run (reading_fault e))))
    i.limits
    (converts_stopped s next e (c.in_err-fill.ensures.filled read s.knows.given s.knows.has) bytes known))

pub returns-in_err-fill-clause-own : goal.returns-in_err-fill-clause-own
returns-in_err-fill-clause-own g c = fault_at (λ f. IsBefore f → ⊥) c.from_residual.result
    (stop.Run (reading_fault c.in_err-fill.field-0.0)) c.from_residual.ensures.1 (reading_own c.in_err-fill.field-0.0)

pub returns-in_err-fill-clause-reads : goal.returns-in_err-fill-clause-reads
returns-in_err-fill-clause-reads g c =
    let i = c.items.invariant in
    let e = c.in_err-fill.field-0.0 in
    at_error (λ r. OfRun (CountsReadFaults (failed_reads c.args.input.now) (failed_reads c.fill.new.input)) r)
    c.from_residual.result (stop.Run (reading_fault e)) c.from_residual.ensures.1
    (stop_faults Bool (failed_reads c.args.input.now) (failed_reads c.items.input) (failed_reads c.fill.new.input)
    e i.reads c.in_err-fill.ensures.counted)

pub returns-in_err-fill-clause-writes : goal.returns-in_err-fill-clause-writes
returns-in_err-fill-clause-writes g c =
    at_error (λ r. OfRun (CountsOnlyWrites (failed_writes c.args.output.now) (failed_writes c.items.output)) r)
    c.from_residual.result (stop.Run (reading_fault c.in_err-fill.field-0.0)) c.from_residual.ensures.1
    (reading_writes _ _ c.in_err-fill.field-0.0 c.items.invariant.writes)

pub convert_next-requires-clause-knows : goal.convert_next-requires-clause-knows
convert_next-requires-clause-knows g c =
    let s = c.items.invariant.knows in
    let read = g.R.Read.remaining (reader_of c.args.input.now) in
    let next = g.R.Read.remaining (reader_of c.fill.new.input) in
    let on = goes_on go_stepping (session_of c.items.reader) s.has.gave.table c.fill.new.self read next s.given
    c.in_ok-fill.field-0 c.if-branch.true (c.in_ok-fill.ensures.filled read s.given s.has) in
    record { read = read; now = next; so = knows_read s (c.in_ok-fill.ensures.same c.if-branch.true) on.0 }

pub returns-in_err-convert_next-clause-converted : goal.returns-in_err-convert_next-clause-converted
returns-in_err-convert_next-clause-converted g c = λ items out bytes start h sent known.
    let i = c.items.invariant in
    let s = i.so items out start h sent in
    let e = c.in_err-convert_next.field-0.0 in
    let read = g.R.Read.remaining (reader_of c.args.input.now) in
    let next = g.R.Read.remaining (reader_of c.fill.new.input) in
    let W = types c.args.target.now.table in
    let now = g.W.Write.contents (writer_of c.convert_next.new.output) in
    let on = goes_on go_stepping (session_of c.items.reader) s.knows.has.gave.table c.fill.new.self read next
    s.knows.given c.in_ok-fill.field-0 c.if-branch.true
    (c.in_ok-fill.ensures.filled read s.knows.given s.knows.has) in
    at_error (λ r. ConvertsBehind c.args.target.now.all (within_trees (limits_of (session_of c.args.reader.now))) bytes
    next items W c.args.target.now.id start now c.args.conversion.now.left_out c.convert_next.new.conversion.left_out r)
    c.from_residual-in_err-convert_next.result e c.from_residual-in_err-convert_next.ensures.1
    (subst (λ (L : Bounds). ConvertsBehind c.args.target.now.all (within_trees L) bytes next items W
    c.args.target.now.id start now c.args.conversion.now.left_out c.convert_next.new.conversion.left_out (Err e))
    (c.in_err-convert_next.ensures.limits ∙ c.in_ok-fill.ensures.limits ∙ i.limits)
    (c.in_err-convert_next.ensures.converted read next start items out
    c.args.conversion.now.left_out (converts_read s (c.in_ok-fill.ensures.same c.if-branch.true) on.0) bytes known))

pub returns-in_err-convert_next-clause-own : goal.returns-in_err-convert_next-clause-own
returns-in_err-convert_next-clause-own g c = fault_at (λ f. IsBefore f → ⊥) c.from_residual-in_err-convert_next.result
    c.in_err-convert_next.field-0.0 c.from_residual-in_err-convert_next.ensures.1 c.in_err-convert_next.ensures.own

pub returns-in_err-convert_next-clause-reads : goal.returns-in_err-convert_next-clause-reads
returns-in_err-convert_next-clause-reads g c =
    let e = c.in_err-convert_next.field-0.0 in
    at_error (λ r. OfRun (CountsReadFaults (failed_reads c.args.input.now) (failed_reads c.fill.new.input)) r)
    c.from_residual-in_err-convert_next.result e c.from_residual-in_err-convert_next.ensures.1
    (convert_unread (failed_reads c.args.input.now) (failed_reads c.fill.new.input) e
    (c.in_ok-fill.ensures.counted ∙ c.items.invariant.reads) c.in_err-convert_next.ensures.unread)

pub returns-in_err-convert_next-clause-writes : goal.returns-in_err-convert_next-clause-writes
returns-in_err-convert_next-clause-writes g c =
    let e = c.in_err-convert_next.field-0.0 in
    at_error (λ r. OfRun (CountsOnlyWrites (failed_writes c.args.output.now) (failed_writes c.convert_next.new.output))
    r)
    c.from_residual-in_err-convert_next.result e c.from_residual-in_err-convert_next.ensures.1
    (subst (λ n. OfRun (CountsOnlyWrites n (failed_writes c.convert_next.new.output)) (Err e)) c.items.invariant.writes
    c.in_err-convert_next.ensures.writes)

pub items-smaller : goal.items-smaller
items-smaller g c =
    let i = c.items.invariant in
    let s = i.knows in
    let read = g.R.Read.remaining (reader_of c.args.input.now) in
    let next = g.R.Read.remaining (reader_of c.fill.new.input) in
    let on = goes_on go_stepping (session_of c.items.reader) s.has.gave.table c.fill.new.self read next s.given
    c.in_ok-fill.field-0 c.if-branch.true (c.in_ok-fill.ensures.filled read s.given s.has) in
    let k = c.in_ok-convert_next.ensures.knows read next
    (knows_read s (c.in_ok-fill.ensures.same c.if-branch.true) on.0) in
    texts_fall go_stepping k.so.stands c.items.reader (taken_of (session_of c.items.reader))
    (c.in_ok-convert_next.ensures.limits ∙ c.in_ok-fill.ensures.limits) k.so.has (omega (arith, on.1, k.onward))

pub items-preserved : goal.items-preserved
items-preserved g c =
    let i = c.items.invariant in
    let s = i.knows in
    let read = g.R.Read.remaining (reader_of c.args.input.now) in
    let next = g.R.Read.remaining (reader_of c.fill.new.input) in
    let same = c.in_ok-fill.ensures.same c.if-branch.true in
    let on = goes_on go_stepping (session_of c.items.reader) s.has.gave.table c.fill.new.self read next s.given
    c.in_ok-fill.field-0 c.if-branch.true (c.in_ok-fill.ensures.filled read s.given s.has) in
    record {
      limits = c.in_ok-convert_next.ensures.limits ∙ c.in_ok-fill.ensures.limits ∙ i.limits;
      reads = c.in_ok-fill.ensures.counted ∙ i.reads;
      writes = c.in_ok-convert_next.ensures.writes ∙ i.writes;
      knows = (c.in_ok-convert_next.ensures.knows read next (knows_read s same on.0)).so;
      so = λ items out start h sent.
          let t = i.so items out start h sent in
          let more = goes_on go_stepping (session_of c.items.reader) t.knows.has.gave.table c.fill.new.self read next
          t.knows.given c.in_ok-fill.field-0 c.if-branch.true
          (c.in_ok-fill.ensures.filled read t.knows.given t.knows.has) in
          c.in_ok-convert_next.ensures.converted read next start items out
          c.args.conversion.now.left_out (converts_read t same more.0);
    }

pub returns-clause-converted : goal.returns-clause-converted
returns-clause-converted g c = λ items out bytes start h sent known.
    let i = c.items.invariant in
    let s = i.so items out start h sent in
    let read = g.R.Read.remaining (reader_of c.args.input.now) in
    let next = g.R.Read.remaining (reader_of c.fill.new.input) in
    let end = has_ended go_stepping (session_of c.items.reader) s.knows.has.gave.table c.fill.new.self read next
    s.knows.given c.in_ok-fill.field-0 c.if-branch.false
    (c.in_ok-fill.ensures.filled read s.knows.given s.knows.has) in
    subst (λ (L : Bounds). ConvertsBehind c.args.target.now.all (within_trees L) bytes next items
    (types c.args.target.now.table) c.args.target.now.id start (g.W.Write.contents (writer_of c.items.output))
    c.args.conversion.now.left_out c.items.conversion.left_out (Ok tt))
    i.limits (converts_whole s bytes known (end.0 bytes known))
