-- From turn to turn what was gathered is what the items say that were read, and each end is that of the stream.
use Rattle.std.proofs.Common.{Bool, Ok, Err, ◌∙◌, ap, arith, refl, subst}
use Rattle.gob_stream.specs.Bounds.{Bounds, within_trees}
use Rattle.gob_stream.specs.Calls.Ends.{reader_of}
use Rattle.gob_stream.proofs.Reader.ReaderOfLaws.{goes_on, has_ended}
use Rattle.gob_stream.proofs.Reader.SessionSteps.{passed_on}
use Rattle.gob_go.specs.Calls.Reader.{session_of}
use Rattle.gob_go.specs.Calls.Session.{limits_of}
use Rattle.gob_go.specs.GoStepping.{go_stepping}
use Rattle.gob_go.proofs.SessionAnswers.{read_within}
use Rattle.gob_views.specs.Machine.Gathered.{GathersAll}
use Rattle.gob_views.proofs.TypeRuns.{counts_at, counts_unread, gathers_filled, gathers_first, gathers_stopped}
use Rattle.gob_views.proofs.TypeRuns.{gathers_whole}
use Rattle.gob_views.proofs.types.gather_types.Goals as goal

pub items-init : goal.items-init
items-init g c = (refl, refl, gathers_first _ _ _ c.requires.new c.requires.empty)

pub returns-in_err-more-clause-gathered : goal.returns-in_err-more-clause-gathered
returns-in_err-more-clause-gathered g c = λ bytes known.
    let i = c.items.invariant in
    let e = c.in_err-more.field-0.0 in
    let L = limits_of (session_of c.args.reader.now) in
    let read = g.R.Read.remaining (reader_of c.args.input.now) in
    let next = g.R.Read.remaining (reader_of c.more.new.input) in
    passed_on (λ r. GathersAll (within_trees L) c.more.new.self bytes next c.items.gathered r) c.from_residual.result
    e c.from_residual.ensures.1
    (gathers_stopped Bool L c.more.new.self next e i.2.has.gave.table i.2 i.0
    (c.in_err-more.ensures.filled read i.2.given i.2.has) (c.in_err-more.ensures.refused read i.2.given i.2.has) bytes
    known)

pub returns-in_err-more-clause-counted : goal.returns-in_err-more-clause-counted
returns-in_err-more-clause-counted g c =
    counts_at Bool _ _ _ c.from_residual.result c.in_err-more.field-0.0 c.from_residual.ensures.1 c.items.invariant.1
    c.in_err-more.ensures.counted

pub returns-in_err-gather_next-clause-gathered : goal.returns-in_err-gather_next-clause-gathered
returns-in_err-gather_next-clause-gathered g c = λ bytes known.
    let i = c.items.invariant in
    let e = c.in_err-gather_next.field-0.0 in
    let L = limits_of (session_of c.args.reader.now) in
    let r = c.gather_next.new.reader in
    let has = c.gather_next.new.gathered in
    let read = g.R.Read.remaining (reader_of c.args.input.now) in
    let next = g.R.Read.remaining (reader_of c.more.new.input) in
    let on = goes_on go_stepping (session_of c.items.reader) i.2.has.gave.table c.more.new.self read next i.2.given
    c.in_ok-more.field-0 c.if-branch.true (c.in_ok-more.ensures.filled read i.2.given i.2.has) in
    passed_on (λ r'. GathersAll (within_trees L) r bytes next has r') c.from_residual-in_err-gather_next.result
    e c.from_residual-in_err-gather_next.ensures.1
    (subst (λ (M : Bounds). GathersAll (within_trees M) r bytes next has (Err e))
    (c.in_ok-more.ensures.limits ∙ i.0)
    (c.in_err-gather_next.ensures.gathered read next (gathers_filled i.2 on.0) bytes known))

pub returns-in_err-gather_next-clause-counted : goal.returns-in_err-gather_next-clause-counted
returns-in_err-gather_next-clause-counted g c =
    counts_unread _ _ c.from_residual-in_err-gather_next.result c.in_err-gather_next.field-0.0
    c.from_residual-in_err-gather_next.ensures.1 (c.in_ok-more.ensures.counted ∙ c.items.invariant.1)
    c.in_err-gather_next.ensures.unread

pub items-smaller : goal.items-smaller
items-smaller g c =
    let s = c.items.invariant.2 in
    let read = g.R.Read.remaining (reader_of c.args.input.now) in
    let next = g.R.Read.remaining (reader_of c.more.new.input) in
    let on = goes_on go_stepping (session_of c.items.reader) s.has.gave.table c.more.new.self read next s.given
    c.in_ok-more.field-0 c.if-branch.true (c.in_ok-more.ensures.filled read s.given s.has) in
    let gathered = c.in_ok-gather_next.ensures.gathered read next (gathers_filled s on.0) in
    let h = gathered.0.has.gave in
    let stream = ap (λ (L : Bounds). L.stream) (c.in_ok-gather_next.ensures.limits ∙ c.in_ok-more.ensures.limits) in
    omega (arith, read_within h, h.taken, stream, on.1, gathered.1)

pub items-preserved : goal.items-preserved
items-preserved g c =
    let i = c.items.invariant in
    let s = i.2 in
    let read = g.R.Read.remaining (reader_of c.args.input.now) in
    let next = g.R.Read.remaining (reader_of c.more.new.input) in
    let on = goes_on go_stepping (session_of c.items.reader) s.has.gave.table c.more.new.self read next s.given
    c.in_ok-more.field-0 c.if-branch.true (c.in_ok-more.ensures.filled read s.given s.has) in (
      c.in_ok-gather_next.ensures.limits ∙ c.in_ok-more.ensures.limits ∙ i.0,
      c.in_ok-more.ensures.counted ∙ i.1,
      (c.in_ok-gather_next.ensures.gathered read next (gathers_filled s on.0)).0,
    )

pub returns-clause-gathered : goal.returns-clause-gathered
returns-clause-gathered g c = λ bytes known.
    let i = c.items.invariant in
    let r = c.more.new.self in
    let read = g.R.Read.remaining (reader_of c.args.input.now) in
    let next = g.R.Read.remaining (reader_of c.more.new.input) in
    let end = has_ended go_stepping (session_of c.items.reader) i.2.has.gave.table r read next i.2.given
    c.in_ok-more.field-0 c.if-branch.false (c.in_ok-more.ensures.filled read i.2.given i.2.has) in
    subst (λ (M : Bounds). GathersAll (within_trees M) r bytes next c.items.gathered (Ok tt)) i.0
    (gathers_whole r next i.2 end.1 (end.0 bytes known))

pub returns-clause-counted : goal.returns-clause-counted
returns-clause-counted g c = c.in_ok-more.ensures.counted ∙ c.items.invariant.1
