-- From step to step the type of the first value that was read is known.
use Rattle.std.proofs.Common.{Bool, ◌∙◌, ap, arith, refl}
use Rattle.gob_types.specs.Defined.{types}
use Rattle.gob_read.specs.Calls.Builders.{tree_building}
use Rattle.gob_stream.specs.Bounds.{within_trees}
use Rattle.gob_stream.specs.Calls.Session.{limits_of, taken_of, types_of}
use Rattle.gob_stream.specs.Calls.Ends.{failed_reads, reader_of}
use Rattle.gob_stream.specs.Calls.Reader.{session_of}
use Rattle.gob_stream.specs.StrictStepping.{strict_stepping}
use Rattle.gob_stream.proofs.Reader.ReaderOfLaws.{goes_on, has_ended}
use Rattle.gob_tool.specs.Machine.Taken.{CountsPiece, FirstIsReady, ReadsWanted}
use Rattle.gob_tool.proofs.EndLaws.{at_error}
use Rattle.gob_tool.proofs.TextLaws.{texts_fall}
use Rattle.gob_tool.proofs.WantedLaws.{finds_first, finds_step, first_ready, piece_counts, step_counts, wanted_ends}
use Rattle.gob_tool.proofs.WantedLaws.{step_last, wanted_stops}
use Rattle.gob_tool.proofs.wanted.read_type.Goals as goal

pub steps-init : goal.steps-init
steps-init g c =
    let read = g.Q.Read.remaining (reader_of c.args.input.now) in
    (refl, refl, finds_first c.args.reader.now read c.args.definitions.now.items c.requires.empty (c.requires.new read))

pub steps-smaller : goal.steps-smaller
steps-smaller g c =
    let i = c.steps.invariant in
    let p = i.2 in
    let read = g.Q.Read.remaining (reader_of c.args.input.now) in
    let next = g.Q.Read.remaining (reader_of c.more.new.input) in
    let on = goes_on (strict_stepping tree_building) (session_of c.steps.reader) (types_of (session_of c.steps.reader))
    c.more.new.self read next p.given c.in_ok-more.field-0 c.if-branch.true
    (c.in_ok-more.ensures.filled read p.given p.has) in
    let t = c.in_ok-step.ensures.stepped read next p.given on.0 in
    texts_fall (strict_stepping tree_building) c.in_ok-step.ensures.stands c.steps.reader
    (taken_of (session_of c.steps.reader)) (c.in_ok-step.ensures.limits ∙ c.in_ok-more.ensures.limits) t.takes.after
    (omega (arith, on.1, t.takes.onward, c.in_ok-step.ensures.used))

pub steps-preserved : goal.steps-preserved
steps-preserved g c =
    let i = c.steps.invariant in
    let p = i.2 in
    let read = g.Q.Read.remaining (reader_of c.args.input.now) in
    let next = g.Q.Read.remaining (reader_of c.more.new.input) in
    let on = goes_on (strict_stepping tree_building) (session_of c.steps.reader) (types_of (session_of c.steps.reader))
    c.more.new.self read next p.given c.in_ok-more.field-0 c.if-branch.true
    (c.in_ok-more.ensures.filled read p.given p.has) in (
      c.in_ok-step.ensures.limits ∙ c.in_ok-more.ensures.limits ∙ i.0,
      c.in_ok-more.ensures.counted ∙ i.1,
      finds_step p (c.in_ok-step.ensures.stepped read next p.given on.0) c.in_ok-first.ensures.first
          c.in_ok-first.ensures.noted,
    )

pub note-noted-requires : goal.note-noted-requires
note-noted-requires g c =
    let p = c.steps.invariant.2 in
    let read = g.Q.Read.remaining (reader_of c.args.input.now) in
    let next = g.Q.Read.remaining (reader_of c.more.new.input) in
    let on = goes_on (strict_stepping tree_building) (session_of c.steps.reader) (types_of (session_of c.steps.reader))
    c.more.new.self read next p.given c.in_ok-more.field-0 c.if-branch.true
    (c.in_ok-more.ensures.filled read p.given p.has) in
    let t = c.in_ok-step.ensures.stepped read next p.given on.0 in
    step_last p.given t.gives t.takes.after.gave.stream (ap (λ d. types d) c.table.ensures)

pub returns-in_err-more-clause-read : goal.returns-in_err-more-clause-read
returns-in_err-more-clause-read g c = λ bytes known.
    let i = c.steps.invariant in
    let p = i.2 in
    let e = c.in_err-more.field-0.0 in
    let M = limits_of (session_of c.args.reader.now) in
    let s = session_of c.steps.reader in
    let read = g.Q.Read.remaining (reader_of c.args.input.now) in
    let next = g.Q.Read.remaining (reader_of c.more.new.input) in
    let T = types_of (session_of c.more.new.self) in
    at_error (λ r. ReadsWanted (within_trees M) bytes next T c.steps.definitions.items r) c.from_residual.result e
    c.from_residual.ensures.1
    (wanted_stops (limits_of s) M (types_of s) T p.given bytes next e i.0 c.steps.definitions.items
    (c.in_err-more.ensures.filled read p.given p.has bytes known))

pub returns-in_err-more-clause-ready : goal.returns-in_err-more-clause-ready
returns-in_err-more-clause-ready g c =
    at_error (λ r. FirstIsReady (types_of (session_of c.more.new.self)) r) c.from_residual.result
    c.in_err-more.field-0.0 c.from_residual.ensures.1 tt

pub returns-in_err-more-clause-reads : goal.returns-in_err-more-clause-reads
returns-in_err-more-clause-reads g c =
    let e = c.in_err-more.field-0.0 in
    at_error (λ r. CountsPiece (failed_reads c.args.input.now) (failed_reads c.more.new.input) r)
    c.from_residual.result e c.from_residual.ensures.1
    (piece_counts Bool _ _ _ e c.steps.invariant.1 c.in_err-more.ensures.counted)

pub returns-in_err-step-clause-read : goal.returns-in_err-step-clause-read
returns-in_err-step-clause-read g c = λ bytes known.
    let i = c.steps.invariant in
    let p = i.2 in
    let e = c.in_err-step.field-0.0 in
    let M = limits_of (session_of c.args.reader.now) in
    let s = session_of c.more.new.self in
    let read = g.Q.Read.remaining (reader_of c.args.input.now) in
    let next = g.Q.Read.remaining (reader_of c.more.new.input) in
    let T = types_of (session_of c.step.new.self) in
    let on = goes_on (strict_stepping tree_building) (session_of c.steps.reader) (types_of (session_of c.steps.reader))
    c.more.new.self read next p.given c.in_ok-more.field-0 c.if-branch.true
    (c.in_ok-more.ensures.filled read p.given p.has) in
    at_error (λ r. ReadsWanted (within_trees M) bytes next T c.steps.definitions.items r)
    c.from_residual-in_err-step.result e c.from_residual-in_err-step.ensures.1
    (wanted_stops (limits_of s) M (types_of s) T p.given bytes next e (c.in_ok-more.ensures.limits ∙ i.0)
    c.steps.definitions.items
    (c.in_err-step.ensures.stepped read next p.given on.0 bytes known))

pub returns-in_err-step-clause-ready : goal.returns-in_err-step-clause-ready
returns-in_err-step-clause-ready g c =
    at_error (λ r. FirstIsReady (types_of (session_of c.step.new.self)) r) c.from_residual-in_err-step.result
    c.in_err-step.field-0.0 c.from_residual-in_err-step.ensures.1 tt

pub returns-in_err-step-clause-reads : goal.returns-in_err-step-clause-reads
returns-in_err-step-clause-reads g c =
    let e = c.in_err-step.field-0.0 in
    at_error (λ r. CountsPiece (failed_reads c.args.input.now) (failed_reads c.more.new.input) r)
    c.from_residual-in_err-step.result e c.from_residual-in_err-step.ensures.1
    (step_counts _ _ e (c.in_ok-more.ensures.counted ∙ c.steps.invariant.1) c.in_err-step.ensures.unread)

pub returns-clause-read : goal.returns-clause-read
returns-clause-read g c = λ bytes known.
    let i = c.steps.invariant in
    let p = i.2 in
    let M = limits_of (session_of c.args.reader.now) in
    let s = session_of c.steps.reader in
    let read = g.Q.Read.remaining (reader_of c.args.input.now) in
    let next = g.Q.Read.remaining (reader_of c.more.new.input) in
    let end = has_ended (strict_stepping tree_building) s (types_of s) c.more.new.self read next p.given
    c.in_ok-more.field-0 c.if-branch.false (c.in_ok-more.ensures.filled read p.given p.has) in
    wanted_ends (limits_of s) M (types_of s) (types_of (session_of c.more.new.self)) (taken_of s) p.given bytes next
    c.steps.first
    i.0 end.1 (end.0 bytes known) p.is p.are

pub returns-clause-ready : goal.returns-clause-ready
returns-clause-ready g c =
    let p = c.steps.invariant.2 in
    let s = session_of c.steps.reader in
    let read = g.Q.Read.remaining (reader_of c.args.input.now) in
    let next = g.Q.Read.remaining (reader_of c.more.new.input) in
    let end = has_ended (strict_stepping tree_building) s (types_of s) c.more.new.self read next p.given
    c.in_ok-more.field-0 c.if-branch.false (c.in_ok-more.ensures.filled read p.given p.has) in
    first_ready (types_of (session_of c.more.new.self)) c.steps.first end.1 p

pub returns-clause-reads : goal.returns-clause-reads
returns-clause-reads g c = c.in_ok-more.ensures.counted ∙ c.steps.invariant.1
