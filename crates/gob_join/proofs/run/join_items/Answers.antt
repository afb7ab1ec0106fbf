-- From turn to turn the values of the items that were read are taken in, and each end is that of the stream.
use Rattle.std.proofs.Common.{◌∙◌, Bool, ap, arith, refl, subst, sym, append-nil}
use Rattle.gob_stream.specs.Bounds.{Bounds}
use Rattle.gob_stream.specs.Calls.Ends.{failed_writes, reader_of}
use Rattle.gob_go.specs.Calls.Reader.{session_of}
use Rattle.gob_stream.proofs.Reader.ReaderOfLaws.{goes_on, has_ended}
use Rattle.gob_go.specs.GoStepping.{go_stepping}
use Rattle.gob_go.proofs.SessionAnswers.{read_within}
use Rattle.gob_join.specs.Faults.{CountsJoinWrites, reading_fault}
use Rattle.gob_join.proofs.JoiningLaws.{all_at, joins_first, joins_still, joins_stopped, joins_whole, reading_writes}
use Rattle.gob_join.proofs.JoiningLaws.{reads_counted, reads_stay, writes_on}
use Rattle.gob_join.proofs.run.join_items.Goals as goal

pub items-init : goal.items-init
items-init g c = (
  refl,
  record { given = _; has = c.requires.new },
  λ before out h. joins_first _ c.requires.new c.requires.none h,
  refl,
  refl,
  refl,
)

pub returns-in_err-more-clause-joined : goal.returns-in_err-more-clause-joined
returns-in_err-more-clause-joined g c = λ before out h.
    let s = c.items.invariant.2 before out h in
    let e = c.in_err-more.field-0.0 in
    let read = g.R.Read.remaining (reader_of c.args.input.now) in
    let next = g.R.Read.remaining (reader_of c.more.new.input) in
    all_at c.more.new.self read next _ before out _ _ c.from_residual.result (reading_fault e)
    c.from_residual.ensures.1
    (joins_stopped c.more.new.self next e s.has.gave.table s c.in_err-more.ensures.limits
    (c.in_err-more.ensures.filled read s.given s.has))

pub returns-in_err-join_next-clause-joined : goal.returns-in_err-join_next-clause-joined
returns-in_err-join_next-clause-joined g c = λ before out h.
    let s = c.items.invariant.2 before out h in
    let e = c.in_err-join_next.field-0.0 in
    let read = g.R.Read.remaining (reader_of c.args.input.now) in
    let next = g.R.Read.remaining (reader_of c.more.new.input) in
    let on = goes_on go_stepping (session_of c.items.reader) s.has.gave.table c.more.new.self read next s.given
    c.in_ok-more.field-0
    c.if-branch.true (c.in_ok-more.ensures.filled read s.given s.has) in
    all_at c.join_next.new.reader read next _ before out _ _ c.from_residual-in_err-join_next.result e
    c.from_residual-in_err-join_next.ensures.1
    (c.in_err-join_next.ensures.joined read next before out _ (joins_still s c.in_ok-more.ensures.limits on.0
    (sym (append-nil s.given)) refl))

pub items-smaller : goal.items-smaller
items-smaller g c =
    let s = c.items.invariant.1 in
    let read = g.R.Read.remaining (reader_of c.args.input.now) in
    let next = g.R.Read.remaining (reader_of c.more.new.input) in
    let on = goes_on go_stepping (session_of c.items.reader) s.has.gave.table c.more.new.self read next s.given
    c.in_ok-more.field-0
    c.if-branch.true (c.in_ok-more.ensures.filled read s.given s.has) in
    let further = c.in_ok-join_next.ensures.onward read next (record { given = s.given; has = on.0 }) in
    let h = further.so.has.gave in
    let stream = ap (λ (L : Bounds). L.stream) (c.in_ok-join_next.ensures.limits ∙ c.in_ok-more.ensures.limits) in
    omega (arith, read_within h, h.taken, stream, on.1, further.onward)

pub items-preserved : goal.items-preserved
items-preserved g c =
    let i = c.items.invariant in
    let read = g.R.Read.remaining (reader_of c.args.input.now) in
    let next = g.R.Read.remaining (reader_of c.more.new.input) in
    let s = i.1 in
    let on = goes_on go_stepping (session_of c.items.reader) s.has.gave.table c.more.new.self read next s.given
    c.in_ok-more.field-0
    c.if-branch.true (c.in_ok-more.ensures.filled read s.given s.has) in (
      c.in_ok-join_next.ensures.limits ∙ c.in_ok-more.ensures.limits ∙ i.0,
      (c.in_ok-join_next.ensures.onward read next (record { given = s.given; has = on.0 })).so,
      λ before out h.
          let t = i.2 before out h in
          let more = goes_on go_stepping (session_of c.items.reader) t.has.gave.table c.more.new.self read next t.given
          c.in_ok-more.field-0 c.if-branch.true (c.in_ok-more.ensures.filled read t.given t.has) in
          c.in_ok-join_next.ensures.joined read next before out _
          (joins_still t c.in_ok-more.ensures.limits more.0 (sym (append-nil t.given)) refl),
      c.in_ok-join_next.ensures.kept ∙ i.3,
      c.in_ok-more.ensures.counted ∙ i.4,
      c.in_ok-join_next.ensures.writes ∙ i.5,
    )

pub returns-clause-joined : goal.returns-clause-joined
returns-clause-joined g c = λ before out h bytes known.
    let s = c.items.invariant.2 before out h in
    let read = g.R.Read.remaining (reader_of c.args.input.now) in
    let next = g.R.Read.remaining (reader_of c.more.new.input) in
    let end = has_ended go_stepping (session_of c.items.reader) s.has.gave.table c.more.new.self read next s.given
    c.in_ok-more.field-0 c.if-branch.false (c.in_ok-more.ensures.filled read s.given s.has) in
    joins_whole c.more.new.self next s c.in_ok-more.ensures.limits (end.0 bytes known)

pub returns-in_err-more-clause-reads : goal.returns-in_err-more-clause-reads
returns-in_err-more-clause-reads g c = reads_counted Bool _ _ _ c.in_err-more.field-0.0 c.from_residual.result
    c.from_residual.ensures.1 c.items.invariant.4 c.in_err-more.ensures.counted

pub returns-in_err-more-clause-writes : goal.returns-in_err-more-clause-writes
returns-in_err-more-clause-writes g c = subst (λ n. CountsJoinWrites n (failed_writes c.items.output)
    c.from_residual.result) c.items.invariant.5 (reading_writes _ c.in_err-more.field-0.0 c.from_residual.result
    c.from_residual.ensures.1)

pub returns-in_err-join_next-clause-reads : goal.returns-in_err-join_next-clause-reads
returns-in_err-join_next-clause-reads g c = reads_stay _ _ c.in_err-join_next.field-0.0
    c.from_residual-in_err-join_next.result c.from_residual-in_err-join_next.ensures.1
    c.in_err-join_next.ensures.unread (c.in_ok-more.ensures.counted ∙ c.items.invariant.4)

pub returns-in_err-join_next-clause-writes : goal.returns-in_err-join_next-clause-writes
returns-in_err-join_next-clause-writes g c = writes_on _ _ _ c.in_err-join_next.field-0.0
    c.from_residual-in_err-join_next.result c.from_residual-in_err-join_next.ensures.1 c.items.invariant.5
    c.in_err-join_next.ensures.writes
