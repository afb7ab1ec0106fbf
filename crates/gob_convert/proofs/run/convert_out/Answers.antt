-- The definitions go out, and behind them what is received.
use Rattle.std.proofs.Common.{◌∙◌, ap, subst, sym}
use Rattle.std.specs.Io.KnownBytes.{Appends}
use Rattle.gob_types.specs.Defined.{types}
use Rattle.gob_stream.specs.Bounds.{Bounds, within_trees}
use Rattle.gob_stream.specs.Calls.Ends.{reader_of, writer_of}
use Rattle.gob_stream.specs.Calls.Writing.{SentPrefix}
use Rattle.gob_go_writer.specs.Calls.Writer.{HasPut}
use Rattle.gob_go_writer.specs.Calls.Writer as writer
use Rattle.gob_tool.specs.declared.fault.ToolFault.TheVariants as fault
use Rattle.gob_tool.proofs.EndLaws.{at_error, sent_prefix}
use Rattle.gob_convert.specs.Running.{ConvertsBehind}
use Rattle.gob_convert.specs.declared.fault.ConvertFault.TheVariants as stop
use Rattle.gob_convert.proofs.ConvertingLaws.{cut_at_front, none_read, written_at}
use Rattle.gob_convert.proofs.run.convert_out.Goals as goal

pub returns-in_err-send_all-clause-converted : goal.returns-in_err-send_all-clause-converted
returns-in_err-send_all-clause-converted g c = λ items bytes h known.
    let now = g.R.Read.remaining (reader_of c.args.input.now) in
    let start = g.W.Write.contents (writer_of c.args.output.now) in
    let new = g.W.Write.contents (writer_of c.send_all.new.self) in
    at_error (λ r. ConvertsBehind c.args.target.now.all (within_trees (writer.limits_of c.args.front.writer)) bytes now
    items (types c.args.target.now.table) c.args.target.now.id start new c.args.left_out.now
    c.args.left_out.now r) c.from_residual.result (stop.Run
    fault.Write)
    (written_at c.in_err-send_all.field-0.0 c.from_residual.result c.in_err-send_all.ensures.fault
    c.from_residual.ensures.1)
    (cut_at_front now start new c.args.left_out.now h (sent_prefix start new c.args.front.bytes.items
    (subst (λ l. SentPrefix l start new) c.bytes.ensures c.in_err-send_all.ensures.prefix)))

pub returns-in_err-reader-clause-converted : goal.returns-in_err-reader-clause-converted
returns-in_err-reader-clause-converted g c = λ items bytes h known.
    let now = g.R.Read.remaining (reader_of c.args.input.now) in
    let start = g.W.Write.contents (writer_of c.args.output.now) in
    let new = g.W.Write.contents (writer_of c.send_all.new.self) in
    at_error (λ r. ConvertsBehind c.args.target.now.all (within_trees (writer.limits_of c.args.front.writer)) bytes now
    items (types c.args.target.now.table) c.args.target.now.id start new c.args.left_out.now
    c.args.left_out.now r) c.from_residual-in_err-reader.result
    (stop.Run fault.Memory) c.from_residual-in_err-reader.ensures.1
    (none_read now start new c.args.left_out.now h (c.limits.ensures ∙ ap
    (λ w. writer.limits_of w) c.into_writer-writer.ensures)
    c.in_err-reader.ensures.nothing known
    (subst (λ l. Appends start new l) c.bytes.ensures c.in_ok-send_all.ensures.ok))

pub returns-in_err-conversion-clause-converted : goal.returns-in_err-conversion-clause-converted
returns-in_err-conversion-clause-converted g c = λ items bytes h known.
    let now = g.R.Read.remaining (reader_of c.args.input.now) in
    let start = g.W.Write.contents (writer_of c.args.output.now) in
    let new = g.W.Write.contents (writer_of c.send_all.new.self) in
    at_error (λ r. ConvertsBehind c.args.target.now.all (within_trees (writer.limits_of c.args.front.writer)) bytes now
    items (types c.args.target.now.table) c.args.target.now.id start new c.args.left_out.now
    c.args.left_out.now r) c.from_residual-in_err-conversion.result
    (stop.Run fault.Memory) c.from_residual-in_err-conversion.ensures.1
    (none_read now start new c.args.left_out.now h (c.limits.ensures ∙ ap
    (λ w. writer.limits_of w) c.into_writer-writer.ensures)
    c.in_ok-reader.ensures.nothing known
    (subst (λ l. Appends start new l) c.bytes.ensures c.in_ok-send_all.ensures.ok))

pub convert_items-answer-requires-clause-known : goal.convert_items-answer-requires-clause-known
convert_items-answer-requires-clause-known g c = λ T U u.
    let k = c.in_ok-conversion.ensures.known T U u in
    record { match = k.match; loss = k.loss }

pub returns-clause-converted : goal.returns-clause-converted
returns-clause-converted g c = λ items bytes h known.
    let start = g.W.Write.contents (writer_of c.args.output.now) in
    let mid = g.W.Write.contents (writer_of c.send_all.new.self) in
    let run = c.convert_items-answer in
    let new = g.W.Write.contents (writer_of run.new.output) in
    let next = g.R.Read.remaining (reader_of run.new.input) in
    let W = types c.args.target.now.table in
    let all = c.args.target.now.all in
    let u = c.args.target.now.id in
    let L = within_trees (writer.limits_of c.args.front.writer) in
    subst (λ telling. ConvertsBehind all L bytes next items W u start new c.args.left_out.now telling run.result)
    (sym c.swap-2.ensures.y_after)
    (subst (λ told. ConvertsBehind all L bytes next items W u start new told run.new.conversion.left_out run.result)
    c.swap.ensures.x_after
    (subst (λ (L : Bounds). ConvertsBehind all (within_trees L) bytes next items W u start new c.swap.new.x
    run.new.conversion.left_out run.result)
    (c.in_ok-reader.ensures.limits ∙ c.limits.ensures ∙ ap (λ w. writer.limits_of w) c.into_writer-writer.ensures)
    (run.ensures.converted items c.args.front.bytes.items bytes start
    (subst (λ w. HasPut w items c.args.front.bytes.items)
    (sym (c.in_ok-conversion.ensures.writer ∙ c.into_writer-writer.ensures)) h)
    (subst (λ l. Appends start mid l) c.bytes.ensures c.in_ok-send_all.ensures.ok) known)))
