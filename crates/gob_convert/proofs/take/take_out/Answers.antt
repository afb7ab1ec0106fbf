-- The lines of the definitions go out, and behind them those of what is received.
use Rattle.std.proofs.Common.{◌∙◌, [], Err, subst, sym}
use Rattle.gob_types.specs.Defined.{types}
use Rattle.gob_stream.specs.Bounds.{Bounds, within_trees}
use Rattle.gob_stream.specs.Calls.Ends.{reader_of, writer_of}
use Rattle.gob_go.specs.Calls.Session.{limits_of}
use Rattle.gob_go_writer.specs.Calls.Writer.{HasPut}
use Rattle.gob_go_writer.specs.Calls.Writer as writer
use Rattle.gob_tool.specs.declared.fault.ToolFault.TheVariants as fault
use Rattle.gob_tool.proofs.EndLaws.{at_error}
use Rattle.gob_convert.specs.Machine.Printing.{HasShown, IsCutShort, TakesBehind}
use Rattle.gob_convert.specs.declared.fault.ConvertFault.TheVariants as stop
use Rattle.gob_convert.proofs.PrintingLaws.{cut_none, front_alone, front_stopped, nothing_shown, prints_cut}
use Rattle.gob_convert.proofs.PrintingLaws.{prints_under, put_stream, shown_cut}
use Rattle.gob_convert.proofs.take.take_out.Goals as goal

pub returns-in_err-reader-clause-taken : goal.returns-in_err-reader-clause-taken
returns-in_err-reader-clause-taken g c = λ items bytes h known.
    let now = g.R.Read.remaining (reader_of c.args.input.now) in
    let start = g.W.Write.contents (writer_of c.args.output.now) in
    at_error (λ r. TakesBehind c.args.target.now.all (within_trees (writer.limits_of c.args.front.writer)) bytes now
    items (types c.args.target.now.table) c.args.target.now.id start start c.args.left_out.now c.args.left_out.now r)
    c.from_residual.result (stop.Run fault.Memory) c.from_residual.ensures.1 (
      c.args.front.bytes.items,
      front_alone now c.args.left_out.now h c.limits.ensures c.in_err-reader.ensures.nothing known,
      cut_none start,
    )

pub returns-in_err-shown-clause-taken : goal.returns-in_err-shown-clause-taken
returns-in_err-shown-clause-taken g c = λ items bytes h known.
    let now = g.R.Read.remaining (reader_of c.args.input.now) in
    let start = g.W.Write.contents (writer_of c.args.output.now) in
    at_error (λ r. TakesBehind c.args.target.now.all (within_trees (writer.limits_of c.args.front.writer)) bytes now
    items (types c.args.target.now.table) c.args.target.now.id start start c.args.left_out.now c.args.left_out.now r)
    c.from_residual-in_err-shown.result (stop.Run fault.Memory) c.from_residual-in_err-shown.ensures.1 (
      c.args.front.bytes.items,
      front_alone now c.args.left_out.now h c.limits.ensures c.in_ok-reader.ensures.nothing known,
      cut_none start,
    )

pub returns-in_err-show_piece-clause-taken : goal.returns-in_err-show_piece-clause-taken
returns-in_err-show_piece-clause-taken g c = λ items bytes h known.
    let now = g.R.Read.remaining (reader_of c.args.input.now) in
    let start = g.W.Write.contents (writer_of c.args.output.now) in
    let new = g.W.Write.contents (writer_of c.show_piece.new.output) in
    let f = c.in_err-show_piece.field-0.0 in
    let limits = c.in_ok-shown.ensures.limits ∙ c.limits-2.ensures in
    let cut = c.in_err-show_piece.ensures.shown [] start (nothing_shown start c.in_ok-shown.ensures.has_read)
    (put_stream h (sym limits) c.bytes.ensures) in
    at_error (λ r. TakesBehind c.args.target.now.all (within_trees (writer.limits_of c.args.front.writer)) bytes now
    items (types c.args.target.now.table) c.args.target.now.id start new c.args.left_out.now c.args.left_out.now r)
    c.from_residual-in_err-show_piece.result (stop.Run f) c.from_residual-in_err-show_piece.ensures.1 (
      c.args.front.bytes.items,
      front_stopped now c.args.left_out.now h c.limits.ensures c.in_ok-reader.ensures.nothing known f cut.0,
      prints_under c.args.front.bytes.items start new (Err (stop.Run f)) limits (prints_cut f cut.0
          (subst (λ b. IsCutShort (within_trees (limits_of c.in_ok-shown.shown)) b start new) c.bytes.ensures cut.1)),
    )

pub returns-in_err-conversion-clause-taken : goal.returns-in_err-conversion-clause-taken
returns-in_err-conversion-clause-taken g c = λ items bytes h known.
    let now = g.R.Read.remaining (reader_of c.args.input.now) in
    let start = g.W.Write.contents (writer_of c.args.output.now) in
    let new = g.W.Write.contents (writer_of c.show_piece.new.output) in
    let limits = c.in_ok-shown.ensures.limits ∙ c.limits-2.ensures in
    let shown = subst (λ b. HasShown c.show_piece.new.session b start new) c.bytes.ensures
    (c.in_ok-show_piece.ensures.shown [] start (nothing_shown start c.in_ok-shown.ensures.has_read)
    (put_stream h (sym limits) c.bytes.ensures)) in
    at_error (λ r. TakesBehind c.args.target.now.all (within_trees (writer.limits_of c.args.front.writer)) bytes now
    items (types c.args.target.now.table) c.args.target.now.id start new c.args.left_out.now c.args.left_out.now r)
    c.from_residual-in_err-conversion.result (stop.Run fault.Memory) c.from_residual-in_err-conversion.ensures.1 (
      c.args.front.bytes.items,
      front_alone now c.args.left_out.now h c.limits.ensures c.in_ok-reader.ensures.nothing known,
      prints_under c.args.front.bytes.items start new (Err (stop.Run fault.Memory))
          (c.in_ok-show_piece.ensures.limits ∙ limits) (shown_cut shown),
    )

pub take_items-answer-requires-clause-new : goal.take_items-answer-requires-clause-new
take_items-answer-requires-clause-new g c =
    c.in_ok-reader.ensures.new (g.R.Read.remaining (reader_of c.args.input.now))

pub take_items-answer-requires-clause-known : goal.take_items-answer-requires-clause-known
take_items-answer-requires-clause-known g c = λ T U u.
    let k = c.in_ok-conversion.ensures.known T U u in
    record { match = k.match; loss = k.loss }

pub returns-clause-taken : goal.returns-clause-taken
returns-clause-taken g c = λ items bytes h known.
    let start = g.W.Write.contents (writer_of c.args.output.now) in
    let mid = g.W.Write.contents (writer_of c.show_piece.new.output) in
    let run = c.take_items-answer in
    let new = g.W.Write.contents (writer_of run.new.output) in
    let next = g.R.Read.remaining (reader_of run.new.input) in
    let W = types c.args.target.now.table in
    let all = c.args.target.now.all in
    let u = c.args.target.now.id in
    let L = within_trees (writer.limits_of c.args.front.writer) in
    let limits = c.in_ok-shown.ensures.limits ∙ c.limits-2.ensures in
    let shown = subst (λ b. HasShown c.show_piece.new.session b start mid) c.bytes.ensures
    (c.in_ok-show_piece.ensures.shown [] start (nothing_shown start c.in_ok-shown.ensures.has_read)
    (put_stream h (sym limits) c.bytes.ensures)) in
    subst (λ telling. TakesBehind all L bytes next items W u start new c.args.left_out.now telling run.result)
    (sym c.swap-2.ensures.y_after)
    (subst (λ told. TakesBehind all L bytes next items W u start new told run.new.taking.conversion.left_out run.result)
    c.swap.ensures.x_after
    (subst (λ (L : Bounds). TakesBehind all (within_trees L) bytes next items W u start new c.swap.new.x
    run.new.taking.conversion.left_out run.result)
    (c.in_ok-reader.ensures.limits ∙ c.limits.ensures)
    (run.ensures.taken items c.args.front.bytes.items bytes start
    (subst (λ w. HasPut w items c.args.front.bytes.items)
    (sym (c.in_ok-conversion.ensures.writer ∙ c.into_writer-writer.ensures)) h)
    shown known)))
