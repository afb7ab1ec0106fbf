use Rattle.std.proofs.Common.{[], ◌∙◌, sym, subst}
use Rattle.gob_stream.specs.Bounds.{within_trees}
use Rattle.gob_stream.proofs.FaultSteps.{passed}
use Rattle.gob_go_writer.specs.Calls.Again.{HasWritten, IsStream, StopsAgain}
use Rattle.gob_go_writer.proofs.AgainSteps.{all_read, all_written, end_stops, nothing_written}
use Rattle.gob_go_writer.proofs.again.write_again.Goals as goal

pub write_items-requires : goal.write_items-requires
write_items-requires c = subst (HasWritten _ []) (sym c.new-again.ensures.items)
    (nothing_written c.in-Ok.ensures.has_read)

pub returns-clause-again : goal.returns-clause-again
returns-clause-again c =
    let h = c.in_ok-write_items.ensures.written in
    all_written h (c.in_ok-finish.ensures.finishes h.items c.args.bytes.now h.after).0

pub returns-clause-stream : goal.returns-clause-stream
returns-clause-stream c =
    let h = c.in_ok-write_items.ensures.written in
    subst (λ L. IsStream (within_trees L) c.args.bytes.now)
    (c.in_ok-write_items.ensures.limits ∙ c.in-Ok.ensures.limits)
    (all_read h (all_written h (c.in_ok-finish.ensures.finishes h.items c.args.bytes.now h.after).0))

pub returns-in_err-write_items-clause-stops : goal.returns-in_err-write_items-clause-stops
returns-in_err-write_items-clause-stops c = passed c.from_residual.result _ c.from_residual.ensures.1
    (subst (λ L. StopsAgain (within_trees L) c.args.bytes.now c.in_err-write_items.field-0.0) c.in-Ok.ensures.limits
    c.in_err-write_items.ensures.stops)

pub returns-in_err-finish-clause-stops : goal.returns-in_err-finish-clause-stops
returns-in_err-finish-clause-stops c =
    let h = c.in_ok-write_items.ensures.written in
    passed c.from_residual-in_err-finish.result _ c.from_residual-in_err-finish.ensures.1
    (subst (λ L. StopsAgain (within_trees L) c.args.bytes.now c.in_err-finish.field-0.0)
    (c.in_ok-write_items.ensures.limits ∙ c.in-Ok.ensures.limits)
    (end_stops c.write_items.new.session c.finish.new.self h.items c.args.bytes.now c.in_err-finish.field-0.0
    (c.in_err-finish.ensures.finishes h.items c.args.bytes.now h.after)))
