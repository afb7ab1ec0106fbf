-- From turn to turn the definitions in front of the first value are put, and each end is that of the stream.
use Rattle.std.proofs.Common.{◌∙◌, ap, arith, Err, Option, subst, sym}
use Rattle.gob_types.specs.declared.id.TypeId.{TypeId}
use Rattle.gob_stream.specs.Bounds.{Bounds, within_trees}
use Rattle.gob_stream.specs.Calls.Ends.{failed_reads, reader_of}
use Rattle.gob_stream.proofs.Reader.ReaderOfLaws.{goes_on, has_ended}
use Rattle.gob_go.specs.Calls.Reader.{session_of}
use Rattle.gob_go.specs.Calls.Session.{limits_of}
use Rattle.gob_go.specs.GoStepping.{go_stepping}
use Rattle.gob_go.proofs.SessionAnswers.{read_within}
use Rattle.gob_tool.proofs.EndLaws.{at_error}
use Rattle.gob_convert.specs.Machine.Wanted.{CountsWanted, FindsFront, FindsNone}
use Rattle.gob_convert.proofs.WantedLaws.{front_read, front_stops, front_whole}
use Rattle.gob_convert.proofs.wanted.put_items.Goals as goal

pub returns-in-Err-clause-found : goal.returns-in-Err-clause-found
returns-in-Err-clause-found g c = λ bytes known.
    let i = c.items.invariant in
    let s = i.so in
    let read = g.Q.Read.remaining (reader_of c.args.wanted.now) in
    let next = g.Q.Read.remaining (reader_of c.more.new.input) in
    subst (λ e. FindsNone (within_trees (limits_of (session_of c.args.reader.now))) bytes next e)
    (sym c.of_wanted.ensures)
    (front_stops s.has.gave.table next s.given c.items.reader c.in-Err.fault i.limits
    (c.in-Err.ensures.filled read s.given s.has) bytes known)

pub returns-then-not-more-clause-found : goal.returns-then-not-more-clause-found
returns-then-not-more-clause-found g c = λ bytes known.
    let i = c.items.invariant in
    let s = i.so in
    let read = g.Q.Read.remaining (reader_of c.args.wanted.now) in
    let next = g.Q.Read.remaining (reader_of c.more.new.input) in
    let end = has_ended go_stepping (session_of c.items.reader) s.has.gave.table c.more.new.self read next s.given
    c.in-Ok.more c.if-not-more.true (c.in-Ok.ensures.filled read s.given s.has) in
    front_whole s i.limits (end.0 bytes known)

pub returns-in_err-first-clause-found : goal.returns-in_err-first-clause-found
returns-in_err-first-clause-found g c = λ bytes known.
    let i = c.items.invariant in
    let s = i.so in
    let e = c.in_err-first.field-0.0 in
    let read = g.Q.Read.remaining (reader_of c.args.wanted.now) in
    let next = g.Q.Read.remaining (reader_of c.more.new.input) in
    let on = goes_on go_stepping (session_of c.items.reader) s.has.gave.table c.more.new.self read next s.given
    c.in-Ok.more c.if-not-more.false (c.in-Ok.ensures.filled read s.given s.has) in
    at_error (λ r. FindsFront (within_trees (limits_of (session_of c.args.reader.now))) bytes next c.put_next.new.front
    r)
    c.from_residual.result e c.from_residual.ensures.1
    (subst (λ (L : Bounds). FindsNone (within_trees L) bytes next e) (c.in-Ok.ensures.limits ∙ i.limits)
    (c.in_err-first.ensures.next read next (front_read s c.in-Ok.ensures.limits on.0) bytes known))

pub returns-in_err-first-clause-reads : goal.returns-in_err-first-clause-reads
returns-in_err-first-clause-reads g c =
    let n = failed_reads c.args.wanted.now in
    let e = c.in_err-first.field-0.0 in
    at_error (λ r. CountsWanted n (failed_reads c.more.new.input) r) c.from_residual.result e c.from_residual.ensures.1
    (subst (λ m. CountsWanted {A = Option TypeId} n m (Err e)) (sym (c.in-Ok.ensures.counted ∙ c.items.invariant.reads))
    (c.in_err-first.ensures.unread n))

pub items-smaller : goal.items-smaller
items-smaller g c =
    let s = c.items.invariant.so in
    let read = g.Q.Read.remaining (reader_of c.args.wanted.now) in
    let next = g.Q.Read.remaining (reader_of c.more.new.input) in
    let on = goes_on go_stepping (session_of c.items.reader) s.has.gave.table c.more.new.self read next s.given
    c.in-Ok.more c.if-not-more.false (c.in-Ok.ensures.filled read s.given s.has) in
    let k = c.in_ok-first.ensures.next read next (front_read s c.in-Ok.ensures.limits on.0) in
    let h = k.so.has.gave in
    let stream = ap (λ (L : Bounds). L.stream) (c.in_ok-first.ensures.limits ∙ c.in-Ok.ensures.limits) in
    omega (arith, read_within h, h.taken, stream, on.1, k.onward)

pub items-preserved : goal.items-preserved
items-preserved g c =
    let i = c.items.invariant in
    let s = i.so in
    let read = g.Q.Read.remaining (reader_of c.args.wanted.now) in
    let next = g.Q.Read.remaining (reader_of c.more.new.input) in
    let on = goes_on go_stepping (session_of c.items.reader) s.has.gave.table c.more.new.self read next s.given
    c.in-Ok.more c.if-not-more.false (c.in-Ok.ensures.filled read s.given s.has) in
    record {
      limits = c.in_ok-first.ensures.limits ∙ c.in-Ok.ensures.limits ∙ i.limits;
      same = c.in_ok-first.ensures.same ∙ i.same;
      reads = c.in-Ok.ensures.counted ∙ i.reads;
      so = (c.in_ok-first.ensures.next read next (front_read s c.in-Ok.ensures.limits on.0)).so;
    }
