use Rattle.std.proofs.Common.{◌≡◌, ◌++◌, Some, Ok, Err, ap, ◌∙◌}
use Rattle.gob_stream.specs.Bounds.{within_trees}
use Rattle.gob_stream.specs.Item.{item_views}
use Rattle.gob_stream.specs.declared.fault.Fault.TheVariants.{Refused}
use Rattle.gob_stream_laws.proofs.Outcomes.{written_so, never_refused}
use Rattle.gob_stream_laws.proofs.read_back.write_and_read.Goals as goal

pub returns-in-Ok-clause-same : goal.returns-in-Ok-clause-same
returns-in-Ok-clause-same c =
    let bytes = c.write_stream.new.output.writer.items in
    let items = item_views c.args.items.now in
    let written = written_so (within_trees c.args.limits) items bytes _ (ap (λ v. v.items) c.new-output.ensures.writer
    ∙ c.new.ensures.items) c.in_default.ensures.writes in
    let there = ap (λ r. Some r.now) c.new-input.ensures.reader ∙ ap (λ b. Some b) (c.as_slice.ensures.value
    ∙ ap (λ v. v.items) c.into_inner-bytes.ensures) in
    let read = c.in-Ok.ensures.items in
    ap (λ l. item_views l) (read.appended ∙ ap (λ l. l ++ read.given) c.new-given.ensures.items)
    ∙ c.streams_are_read_back.ensures.whole (within_trees c.args.limits) items (item_views read.given) bytes _ (Ok tt)
    written (read.holds bytes there)

pub returns-clause-unrefused : goal.returns-clause-unrefused
returns-clause-unrefused c = λ refusal e.
    let bytes = c.write_stream.new.output.writer.items in
    let items = item_views c.args.items.now in
    let fault = c.in-Err-read_stream.fault in
    let same : fault ≡ Refused refusal = cc in
    let written = written_so (within_trees c.args.limits) items bytes _ (ap (λ v. v.items) c.new-output.ensures.writer
    ∙ c.new.ensures.items) c.in_default.ensures.writes in
    let there = ap (λ r. Some r.now) c.new-input.ensures.reader ∙ ap (λ b. Some b) (c.as_slice.ensures.value
    ∙ ap (λ v. v.items) c.into_inner-bytes.ensures) in
    let read = c.in-Err-read_stream.ensures.items in
    never_refused _ _ fault refusal same
    (c.streams_are_read_back.ensures.whole (within_trees c.args.limits) items (item_views read.given) bytes _
    (Err fault) written (read.holds bytes there))
