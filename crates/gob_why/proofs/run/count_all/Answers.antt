-- What was read is counted, and each end is that of the stream.
use Rattle.std.proofs.Common.{Bool, ◌∙◌, ap, refl}
use Rattle.gob_types.specs.Defined.{definition_count, types}
use Rattle.gob_stream.specs.Bounds.{within_trees}
use Rattle.gob_stream.specs.Calls.Ends.{failed_reads, reader_of}
use Rattle.gob_filled.specs.Outcome.{profile}
use Rattle.gob_go.specs.Calls.Session.{limits_of, types_of}
use Rattle.gob_tool.specs.Fault.{reading_fault}
use Rattle.gob_tool.specs.Machine.Counting.{CountsCounting, EndsCountingIn}
use Rattle.gob_tool.specs.declared.check.Tally.{Tally}
use Rattle.gob_tool.proofs.CheckLaws.{counting_stops}
use Rattle.gob_tool.proofs.EndLaws.{at_error}
use Rattle.gob_why.proofs.ReadingLaws.{counts_all, stops_all}
use Rattle.gob_why.proofs.run.count_all.Goals as goal

pub returns-in_err-is_whole-clause-counted : goal.returns-in_err-is_whole-clause-counted
returns-in_err-is_whole-clause-counted g c = λ bytes known.
    let t = c.read_all.new in
    let p = c.in_err-is_whole.ensures.read in
    let e = c.in_err-is_whole.field-0.0 in
    let L = within_trees (limits_of c.args.session.now) in
    let next = g.R.Read.remaining (reader_of t.input) in
    at_error (λ r. EndsCountingIn profile L bytes next r) c.from_residual.result (reading_fault e)
    c.from_residual.ensures.1
    (stops_all _ L (types_of t.session) t.kept.items bytes next t.kept.item.items t.kept.begin p.text e
    (p.holds bytes known))

pub returns-in_err-is_whole-clause-reads : goal.returns-in_err-is_whole-clause-reads
returns-in_err-is_whole-clause-reads g c =
    let e = c.in_err-is_whole.field-0.0 in
    let old = failed_reads c.args.input.now in
    let new = failed_reads c.read_all.new.input in
    at_error (λ r. CountsCounting old new r) c.from_residual.result (reading_fault e) c.from_residual.ensures.1
    (counting_stops Bool old old new e refl c.in_err-is_whole.ensures.counted)

pub returns-clause-counted : goal.returns-clause-counted
returns-clause-counted g c = λ bytes known.
    let t = c.read_all.new in
    let p = rw c.if-not-is_whole.false at c.in_ok-is_whole.ensures.read in
    let L = within_trees (limits_of c.args.session.now) in
    let next = g.R.Read.remaining (reader_of t.input) in
    let tally : Tally = record { items = t.kept.items; types = c.count.result; bytes = t.kept.begin } in
    counts_all _ L (types_of t.session) t.kept.items bytes next t.kept.item.items t.kept.begin p.text tally refl
    (c.count.ensures.count ∙ ap (λ d. definition_count (types d)) c.table.ensures) refl (p.holds bytes known)
