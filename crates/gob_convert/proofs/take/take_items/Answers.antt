-- From turn to turn the values of the items that were read are converted and shown, and each end is that of the stream.
use Rattle.std.proofs.Common.{◌∙◌, [], Err, Ok, Some, arith, refl, subst}
use Rattle.gob_types.specs.Defined.{types}
use Rattle.gob_stream.specs.Bounds.{Bounds, within_trees}
use Rattle.gob_stream.specs.Calls.Ends.{reader_of, writer_of}
use Rattle.gob_stream.proofs.Reader.ReaderOfLaws.{goes_on, has_ended}
use Rattle.gob_go.specs.Calls.Reader.{session_of}
use Rattle.gob_go.specs.Calls.Session.{limits_of, taken_of}
use Rattle.gob_go.specs.GoStepping.{go_stepping}
use Rattle.gob_tool.specs.Fault.{reading_fault}
use Rattle.gob_tool.proofs.EndLaws.{at_error}
use Rattle.gob_tool.proofs.TextLaws.{texts_fall}
use Rattle.gob_convert.specs.Running.{ConvertsBehind}
use Rattle.gob_convert.specs.Machine.Printing.{TakesBehind}
use Rattle.gob_convert.specs.declared.fault.ConvertFault.TheVariants as stop
use Rattle.gob_convert.proofs.ConvertingLaws.{converts_read, converts_stopped, converts_whole, knows_first, knows_read}
use Rattle.gob_convert.proofs.ConvertingLaws.{puts_first}
use Rattle.gob_convert.proofs.PrintingLaws.{prints_all, prints_under}
use Rattle.gob_convert.proofs.take.take_items.Goals as goal

pub items-init : goal.items-init
unfolding knows_first
items-init g c =
    let r = c.requires in
    let W = types c.args.target.now.table in
    let knows = knows_first r.new r.stands (λ T. r.known T W c.args.target.now.id) in
    record {
      limits = refl;
      shown = r.shown;
      reads = refl;
      writes = refl;
      knows = knows;
      so = λ items out start h shown.
          (out, record { knows = knows; puts = puts_first h refl r.limits r.fits r.none refl }, shown);
    }

pub returns-in_err-fill-clause-taken : goal.returns-in_err-fill-clause-taken
returns-in_err-fill-clause-taken g c = λ items out bytes start h shown known.
    let i = c.items.invariant in
    let t = i.so items out start h shown in
    let s = t.1 in
    let e = c.in_err-fill.field-0.0 in
    let read = g.R.Read.remaining (reader_of c.args.input.now) in
    let next = g.R.Read.remaining (reader_of c.fill.new.input) in
    let W = types c.args.target.now.table in
    at_error (λ r. TakesBehind c.args.target.now.all (within_trees (limits_of (session_of c.args.reader.now))) bytes
    next items W c.args.target.now.id start (g.W.Write.contents (writer_of c.items.output))
    c.args.taking.now.conversion.left_out c.items.taking.conversion.left_out r)
    c.from_residual.result (stop.Run (reading_fault e)) c.from_residual.ensures.1 (
      t.0,
      subst (λ (L : Bounds). ConvertsBehind c.args.target.now.all (within_trees L) bytes next items W
          c.args.target.now.id (Some []) (Some t.0) c.args.taking.now.conversion.left_out
          c.items.taking.conversion.left_out (Err (stop.Run (reading_fault e))))
          i.limits
          (converts_stopped s next e (c.in_err-fill.ensures.filled read s.knows.given s.knows.has) bytes known),
      prints_under t.0 start (g.W.Write.contents (writer_of c.items.output)) (Err (stop.Run (reading_fault e)))
          i.shown (prints_all (Err (stop.Run (reading_fault e))) t.2),
    )

pub take_next-requires-clause-knows : goal.take_next-requires-clause-knows
take_next-requires-clause-knows g c =
    let s = c.items.invariant.knows in
    let read = g.R.Read.remaining (reader_of c.args.input.now) in
    let next = g.R.Read.remaining (reader_of c.fill.new.input) in
    let on = goes_on go_stepping (session_of c.items.reader) s.has.gave.table c.fill.new.self read next s.given
    c.in_ok-fill.field-0 c.if-branch.true (c.in_ok-fill.ensures.filled read s.given s.has) in
    record { read = read; now = next; so = knows_read s (c.in_ok-fill.ensures.same c.if-branch.true) on.0 }

pub returns-in_err-take_next-clause-taken : goal.returns-in_err-take_next-clause-taken
returns-in_err-take_next-clause-taken g c = λ items out bytes start h shown known.
    let i = c.items.invariant in
    let t = i.so items out start h shown in
    let s = t.1 in
    let e = c.in_err-take_next.field-0.0 in
    let read = g.R.Read.remaining (reader_of c.args.input.now) in
    let next = g.R.Read.remaining (reader_of c.fill.new.input) in
    let W = types c.args.target.now.table in
    let now = g.W.Write.contents (writer_of c.take_next.new.output) in
    let on = goes_on go_stepping (session_of c.items.reader) s.knows.has.gave.table c.fill.new.self read next
    s.knows.given c.in_ok-fill.field-0 c.if-branch.true
    (c.in_ok-fill.ensures.filled read s.knows.given s.knows.has) in
    let n = c.in_err-take_next.ensures.taken read next start items out t.0 c.args.taking.now.conversion.left_out
    (converts_read s (c.in_ok-fill.ensures.same c.if-branch.true) on.0) t.2 in
    at_error (λ r. TakesBehind c.args.target.now.all (within_trees (limits_of (session_of c.args.reader.now))) bytes
    next items W c.args.target.now.id start now c.args.taking.now.conversion.left_out
    c.take_next.new.taking.conversion.left_out r)
    c.from_residual-in_err-take_next.result e c.from_residual-in_err-take_next.ensures.1 (
      n.0,
      subst (λ (L : Bounds). ConvertsBehind c.args.target.now.all (within_trees L) bytes next items W
          c.args.target.now.id (Some []) (Some n.0) c.args.taking.now.conversion.left_out
          c.take_next.new.taking.conversion.left_out (Err e))
          (c.in_err-take_next.ensures.limits ∙ c.in_ok-fill.ensures.limits ∙ i.limits) (n.1 bytes known),
      prints_under n.0 start now (Err e) (c.in_err-take_next.ensures.shown ∙ i.shown) n.2,
    )

pub items-smaller : goal.items-smaller
items-smaller g c =
    let i = c.items.invariant in
    let s = i.knows in
    let read = g.R.Read.remaining (reader_of c.args.input.now) in
    let next = g.R.Read.remaining (reader_of c.fill.new.input) in
    let on = goes_on go_stepping (session_of c.items.reader) s.has.gave.table c.fill.new.self read next s.given
    c.in_ok-fill.field-0 c.if-branch.true (c.in_ok-fill.ensures.filled read s.given s.has) in
    let k = c.in_ok-take_next.ensures.knows read next
    (knows_read s (c.in_ok-fill.ensures.same c.if-branch.true) on.0) in
    texts_fall go_stepping k.so.stands c.items.reader (taken_of (session_of c.items.reader))
    (c.in_ok-take_next.ensures.limits ∙ c.in_ok-fill.ensures.limits) k.so.has (omega (arith, on.1, k.onward))

pub items-preserved : goal.items-preserved
items-preserved g c =
    let i = c.items.invariant in
    let s = i.knows in
    let read = g.R.Read.remaining (reader_of c.args.input.now) in
    let next = g.R.Read.remaining (reader_of c.fill.new.input) in
    let same = c.in_ok-fill.ensures.same c.if-branch.true in
    let on = goes_on go_stepping (session_of c.items.reader) s.has.gave.table c.fill.new.self read next s.given
    c.in_ok-fill.field-0 c.if-branch.true (c.in_ok-fill.ensures.filled read s.given s.has) in
    record {
      limits = c.in_ok-take_next.ensures.limits ∙ c.in_ok-fill.ensures.limits ∙ i.limits;
      shown = c.in_ok-take_next.ensures.shown ∙ i.shown;
      reads = c.in_ok-fill.ensures.counted ∙ i.reads;
      writes = c.in_ok-take_next.ensures.writes ∙ i.writes;
      knows = (c.in_ok-take_next.ensures.knows read next (knows_read s same on.0)).so;
      so = λ items out start h shown.
          let t = i.so items out start h shown in
          let more = goes_on go_stepping (session_of c.items.reader) t.1.knows.has.gave.table c.fill.new.self read next
          t.1.knows.given c.in_ok-fill.field-0 c.if-branch.true
          (c.in_ok-fill.ensures.filled read t.1.knows.given t.1.knows.has) in
          c.in_ok-take_next.ensures.taken read next start items out t.0 c.args.taking.now.conversion.left_out
          (converts_read t.1 same more.0) t.2;
    }

pub returns-clause-taken : goal.returns-clause-taken
returns-clause-taken g c = λ items out bytes start h shown known.
    let i = c.items.invariant in
    let t = i.so items out start h shown in
    let s = t.1 in
    let read = g.R.Read.remaining (reader_of c.args.input.now) in
    let next = g.R.Read.remaining (reader_of c.fill.new.input) in
    let end = has_ended go_stepping (session_of c.items.reader) s.knows.has.gave.table c.fill.new.self read next
    s.knows.given c.in_ok-fill.field-0 c.if-branch.false
    (c.in_ok-fill.ensures.filled read s.knows.given s.knows.has) in (
      t.0,
      subst (λ (L : Bounds). ConvertsBehind c.args.target.now.all (within_trees L) bytes next items
          (types c.args.target.now.table) c.args.target.now.id (Some []) (Some t.0)
          c.args.taking.now.conversion.left_out c.items.taking.conversion.left_out (Ok tt))
          i.limits (converts_whole s bytes known (end.0 bytes known)),
      prints_under t.0 start (g.W.Write.contents (writer_of c.items.output)) (Ok tt) i.shown (prints_all (Ok tt) t.2),
    )
