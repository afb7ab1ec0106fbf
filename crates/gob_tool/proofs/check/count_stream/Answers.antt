-- From turn to turn what was taken is counted, and each end is that of the stream.
use Rattle.std.proofs.Common.{Bool, Ok, ◌∙◌, ap, arith, refl, subst}
use Rattle.gob_types.specs.Defined.{definition_count, types}
use Rattle.gob_stream.specs.Calls.Ends.{failed_reads, reader_of}
use Rattle.gob_stream.specs.Calls.ReaderOf.{session_of, types_behind}
use Rattle.gob_stream.proofs.Reader.ReaderOfLaws.{goes_on, has_ended}
use Rattle.gob_tool.specs.Checking.{IsNoStreamIn}
use Rattle.gob_tool.specs.Fault.{reading_fault}
use Rattle.gob_tool.specs.Machine.Counting.{CountsCounting, EndsCountingIn}
use Rattle.gob_tool.specs.declared.check.Tally.{Tally}
use Rattle.gob_tool.proofs.CheckLaws.{counted_stops, counted_whole, counting_stops, counting_unread, counts_end}
use Rattle.gob_tool.proofs.CheckLaws.{counts_fall, counts_first, counts_turn, limits_as}
use Rattle.gob_tool.proofs.EndLaws.{at_error}
use Rattle.gob_tool.proofs.check.count_stream.Goals as goal

pub loop-reader-init : goal.loop-reader-init
loop-reader-init g c =
    let read = g.R.Read.remaining (reader_of c.args.input.now) in (
      c.in_ok-reader.ensures.limits,
      refl,
      counts_first g.S.Steps.stepping c.in_ok-reader.reader read (c.in_ok-reader.ensures.new read)
          c.in_ok-reader.ensures.taken,
    )

pub returns-in_err-more-clause-counted : goal.returns-in_err-more-clause-counted
returns-in_err-more-clause-counted g c = λ bytes known.
    let d = g.S.Steps.stepping in
    let i = c.loop-reader.invariant in
    let e = c.in_err-more.field-0.0 in
    let next = g.R.Read.remaining (reader_of c.more.new.input) in
    let s = session_of c.loop-reader.reader in
    at_error (λ r. EndsCountingIn d.grammar (d.within c.args.limits) bytes next r) c.from_residual-in_err-more.result
    (reading_fault e) c.from_residual-in_err-more.ensures.1
    (subst (λ L. IsNoStreamIn d.grammar (d.within L) bytes next (reading_fault e)) i.0
    (counted_stops d.grammar (d.within (d.limits s)) (types_behind d i.2.has) i.2.given bytes next e
    (c.in_err-more.ensures.filled (g.R.Read.remaining (reader_of c.args.input.now)) i.2.given i.2.has bytes known)))

pub returns-in_err-more-clause-reads : goal.returns-in_err-more-clause-reads
returns-in_err-more-clause-reads g c =
    let i = c.loop-reader.invariant in
    let e = c.in_err-more.field-0.0 in
    at_error (λ r. CountsCounting (failed_reads c.args.input.now) (failed_reads c.more.new.input) r)
    c.from_residual-in_err-more.result (reading_fault e) c.from_residual-in_err-more.ensures.1
    (counting_stops Bool (failed_reads c.args.input.now) (failed_reads c.loop-reader.input)
    (failed_reads c.more.new.input) e i.1 c.in_err-more.ensures.counted)

pub returns-in_err-passed-clause-counted : goal.returns-in_err-passed-clause-counted
returns-in_err-passed-clause-counted g c = λ bytes known.
    let d = g.S.Steps.stepping in
    let i = c.loop-reader.invariant in
    let e = c.in_err-passed.field-0.0 in
    let read = g.R.Read.remaining (reader_of c.args.input.now) in
    let next = g.R.Read.remaining (reader_of c.more.new.input) in
    let s = session_of c.more.new.self in
    let on = goes_on d (session_of c.loop-reader.reader) (types_behind d i.2.has) c.more.new.self read next i.2.given
    c.in_ok-more.field-0 c.if-branch.true (c.in_ok-more.ensures.filled read i.2.given i.2.has) in
    let stop = c.in_err-passed.ensures.counted read next i.2.given on.0 in
    at_error (λ r. EndsCountingIn d.grammar (d.within c.args.limits) bytes next r) c.from_residual-in_err-passed.result
    (reading_fault e) c.from_residual-in_err-passed.ensures.1
    (subst (λ L. IsNoStreamIn d.grammar (d.within L) bytes next (reading_fault e)) (c.in_ok-more.ensures.limits ∙ i.0)
    (counted_stops d.grammar (d.within (d.limits s)) stop.0 i.2.given bytes next e (stop.1 bytes known)))

pub returns-in_err-passed-clause-reads : goal.returns-in_err-passed-clause-reads
returns-in_err-passed-clause-reads g c =
    let e = c.in_err-passed.field-0.0 in
    at_error (λ r. CountsCounting (failed_reads c.args.input.now) (failed_reads c.more.new.input) r)
    c.from_residual-in_err-passed.result (reading_fault e) c.from_residual-in_err-passed.ensures.1
    (counting_unread (failed_reads c.args.input.now) (failed_reads c.more.new.input) e
    (c.in_ok-more.ensures.counted ∙ c.loop-reader.invariant.1) c.in_err-passed.ensures.unread)

pub overflow_add-items : goal.overflow_add-items
overflow_add-items g c =
    let d = g.S.Steps.stepping in
    let i = c.loop-reader.invariant in
    let limits = limits_as (c.in_ok-passed.ensures.limits ∙ c.in_ok-more.ensures.limits
    ∙ i.0) c.in_ok-reader.ensures.allowed in
    let turn = counts_turn d (types_behind d i.2.has) c.more.new.self c.count_next.new.reader
    (g.R.Read.remaining (reader_of c.more.new.input)) c.in_ok-more.field-0 c.in_ok-passed.passed c.if-branch.true i.2
    (c.in_ok-more.ensures.filled (g.R.Read.remaining (reader_of c.args.input.now)) i.2.given i.2.has)
    c.in_ok-passed.ensures.counted in
    omega (arith, (counts_end d c.in_ok-passed.ensures.stands turn).0, limits.stream)

pub overflow_add-bytes : goal.overflow_add-bytes
overflow_add-bytes g c =
    let d = g.S.Steps.stepping in
    let i = c.loop-reader.invariant in
    let limits = limits_as (c.in_ok-passed.ensures.limits ∙ c.in_ok-more.ensures.limits
    ∙ i.0) c.in_ok-reader.ensures.allowed in
    let turn = counts_turn d (types_behind d i.2.has) c.more.new.self c.count_next.new.reader
    (g.R.Read.remaining (reader_of c.more.new.input)) c.in_ok-more.field-0 c.in_ok-passed.passed c.if-branch.true i.2
    (c.in_ok-more.ensures.filled (g.R.Read.remaining (reader_of c.args.input.now)) i.2.given i.2.has)
    c.in_ok-passed.ensures.counted in
    omega (arith, (counts_end d c.in_ok-passed.ensures.stands turn).1, limits.stream)

pub loop-reader-smaller : goal.loop-reader-smaller
loop-reader-smaller g c =
    let d = g.S.Steps.stepping in
    let i = c.loop-reader.invariant in
    let turn = counts_turn d (types_behind d i.2.has) c.more.new.self c.count_next.new.reader
    (g.R.Read.remaining (reader_of c.more.new.input)) c.in_ok-more.field-0 c.in_ok-passed.passed c.if-branch.true i.2
    (c.in_ok-more.ensures.filled (g.R.Read.remaining (reader_of c.args.input.now)) i.2.given i.2.has)
    c.in_ok-passed.ensures.counted in
    counts_fall d c.in_ok-passed.passed.items c.in_ok-passed.passed.used c.in_ok-passed.ensures.stands
    (c.in_ok-passed.ensures.limits ∙ c.in_ok-more.ensures.limits) i.2 turn c.in_ok-passed.ensures.onward

pub loop-reader-preserved : goal.loop-reader-preserved
loop-reader-preserved g c =
    let d = g.S.Steps.stepping in
    let i = c.loop-reader.invariant in (
      c.in_ok-passed.ensures.limits ∙ c.in_ok-more.ensures.limits ∙ i.0,
      c.in_ok-more.ensures.counted ∙ i.1,
      counts_turn d (types_behind d i.2.has) c.more.new.self c.count_next.new.reader
          (g.R.Read.remaining (reader_of c.more.new.input)) c.in_ok-more.field-0 c.in_ok-passed.passed c.if-branch.true
          i.2 (c.in_ok-more.ensures.filled (g.R.Read.remaining (reader_of c.args.input.now)) i.2.given i.2.has)
          c.in_ok-passed.ensures.counted,
    )

pub returns-clause-counted : goal.returns-clause-counted
returns-clause-counted g c = λ bytes known.
    let d = g.S.Steps.stepping in
    let i = c.loop-reader.invariant in
    let read = g.R.Read.remaining (reader_of c.args.input.now) in
    let next = g.R.Read.remaining (reader_of c.more.new.input) in
    let end = has_ended d (session_of c.loop-reader.reader) (types_behind d i.2.has) c.more.new.self read next
    i.2.given c.in_ok-more.field-0 c.if-branch.false (c.in_ok-more.ensures.filled read i.2.given i.2.has) in
    let tally : Tally = record
    { items = c.loop-reader.items; types = c.count-types.result; bytes = c.loop-reader.bytes } in
    subst (λ L. EndsCountingIn d.grammar (d.within L) bytes next (Ok tally)) i.0
    (counted_whole d.grammar tally i.2.items_are
    (c.count-types.ensures.count ∙ ap (λ x. definition_count (types x)) c.table.ensures ∙ ap definition_count end.1)
    i.2.bytes_are (end.0 bytes known))

pub returns-clause-reads : goal.returns-clause-reads
returns-clause-reads g c = c.in_ok-more.ensures.counted ∙ c.loop-reader.invariant.1
