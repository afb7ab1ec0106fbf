-- What a step gave is converted, and the lines of what is written go out.
use Rattle.std.proofs.Common.{◌∙◌, ◌++◌, ap, subst, sym, [], Ok, Err, Some}
use Rattle.gob_types.specs.Defined.{types}
use Rattle.gob_stream.specs.Bounds.{within_trees}
use Rattle.gob_stream.specs.Calls.Ends.{writer_of}
use Rattle.gob_go.specs.Calls.Session.{limits_of}
use Rattle.gob_tool.specs.Fault.{reading_fault}
use Rattle.gob_tool.specs.declared.fault.ToolFault.TheVariants as fault
use Rattle.gob_tool.proofs.EndLaws.{at_error}
use Rattle.gob_convert.specs.declared.fault.ConvertFault.TheVariants as stop
use Rattle.gob_convert.specs.Machine.Converting.{ConvertsItem, StopsConverting}
use Rattle.gob_convert.specs.Machine.Printing.{HasShown, IsCutShort, TakesNext}
use Rattle.gob_convert.proofs.ConvertingLaws.{converts_refused, converts_step, converts_stopped, known_as}
use Rattle.gob_convert.proofs.ConvertingLaws.{known_behind, knows_on, knows_step, last_behind, none_same}
use Rattle.gob_convert.proofs.ConvertingLaws.{under_limits, written_at}
use Rattle.gob_convert.proofs.PrintingLaws.{appended, prints_all, prints_cut, prints_under, put_stream, shown_cut}
use Rattle.gob_convert.proofs.PrintingLaws.{shown_kept, stops_cut, stops_showing}
use Rattle.gob_convert.proofs.take.take_next.Goals as goal

pub convert_item-requires-clause-known : goal.convert_item-requires-clause-known
convert_item-requires-clause-known g c =
    let k = c.requires.knows in
    known_behind (types c.table.result.now) (ap types c.table.ensures) k.so c.in_ok-step.ensures.limits
    (c.in_ok-step.ensures.stepped k.read k.now k.so.given k.so.has) c.in_ok-step.ensures.between

pub convert_item-requires-clause-last : goal.convert_item-requires-clause-last
convert_item-requires-clause-last g c =
    let k = c.requires.knows in
    last_behind (types c.table.result.now) (ap types c.table.ensures)
    (c.in_ok-step.ensures.stepped k.read k.now k.so.given k.so.has) c.in_ok-step.ensures.between

pub returns-in_err-step-clause-taken : goal.returns-in_err-step-clause-taken
returns-in_err-step-clause-taken g c = λ read now start items out stream told s shown.
    let e = c.in_err-step.field-0.0 in
    at_error (λ r. TakesNext c.args.target.now.all c.step.new.self read now c.args.taking.now.conversion
    c.args.taking.now.shown (types c.args.target.now.table) c.args.target.now.id items out start
    (g.W.Write.contents (writer_of c.args.output.now)) told r) c.from_residual.result (stop.Run (reading_fault e))
    c.from_residual.ensures.1 (
      stream,
      under_limits c.args.reader.now c.step.new.self (stop.Run (reading_fault e)) c.in_err-step.ensures.limits
          (converts_stopped s now e (c.in_err-step.ensures.stepped read now s.knows.given s.knows.has)),
      prints_all (Err (stop.Run (reading_fault e))) shown,
    )

pub returns-in_err-convert_item-clause-taken : goal.returns-in_err-convert_item-clause-taken
returns-in_err-convert_item-clause-taken g c = λ read now start items out stream told s shown.
    let e = c.in_err-convert_item.field-0.0 in
    let W = types c.args.target.now.table in
    at_error (λ r. TakesNext c.args.target.now.all c.step.new.self read now c.convert_item.new.conversion
    c.args.taking.now.shown W c.args.target.now.id items out start (g.W.Write.contents (writer_of c.args.output.now))
    told r)
    c.from_residual-in_err-convert_item.result e c.from_residual-in_err-convert_item.ensures.1 (
      stream,
      subst (λ telling. StopsConverting c.args.target.now.all c.step.new.self read now W c.args.target.now.id items
          (Some []) (Some stream) told telling e) (sym c.in_err-convert_item.ensures.kept)
          (converts_refused c.convert_item.new.conversion c.new-text.result.items c.convert_item.new.text.items s e
          c.in_ok-step.ensures.limits c.in_ok-step.ensures.stands
          (c.in_ok-step.ensures.stepped read now s.knows.given s.knows.has) c.in_ok-step.ensures.between
          (subst (λ T. ConvertsItem c.args.target.now.all c.in_ok-step.step.item c.args.taking.now.conversion
          c.convert_item.new.conversion c.new-text.result.items c.convert_item.new.text.items T W
          c.args.target.now.id (Err e))
          (ap types c.table.ensures) c.in_err-convert_item.ensures.converted)),
      prints_all (Err e) shown,
    )

pub returns-in_err-show_piece-clause-taken : goal.returns-in_err-show_piece-clause-taken
returns-in_err-show_piece-clause-taken g c = λ read now start items out stream told s shown.
    let W = types c.args.target.now.table in
    let new = g.W.Write.contents (writer_of c.show_piece.new.output) in
    let text = c.convert_item.new.text.items in
    let f = c.in_err-show_piece.field-0.0 in
    let so = converts_step text s c.in_ok-step.ensures.limits c.in_ok-step.ensures.stands
    (c.in_ok-step.ensures.stepped read now s.knows.given s.knows.has) c.in_ok-step.ensures.between
    (known_as c.convert_item.new.conversion W c.args.target.now.id c.in_ok-step.step.item
    (ap types c.table.ensures) c.in_ok-convert_item.ensures.known)
    (subst (λ T. ConvertsItem c.args.target.now.all c.in_ok-step.step.item c.args.taking.now.conversion
    c.convert_item.new.conversion c.new-text.result.items text T W c.args.target.now.id (Ok tt))
    (ap types c.table.ensures) c.in_ok-convert_item.ensures.converted) c.new-text.ensures.items
    c.in_ok-convert_item.ensures.limits (appended stream text) in
    let piece = ap (λ l. stream ++ l) c.deref.ensures.value in
    let ends = put_stream so.puts.put (so.puts.limits ∙ c.in_ok-step.ensures.limits ∙ sym c.requires.shown)
    (piece ∙ so.puts.went) in
    let cut = c.in_err-show_piece.ensures.shown stream start shown ends in
    at_error (λ r. TakesNext c.args.target.now.all c.step.new.self read now c.convert_item.new.conversion
    c.show_piece.new.session W c.args.target.now.id items out start new told r)
    c.from_residual-in_err-show_piece.result (stop.Run f) c.from_residual-in_err-show_piece.ensures.1 (
      stream ++ text,
      stops_showing so f cut.0,
      prints_under (stream ++ text) start new (Err (stop.Run f)) (sym c.in_err-show_piece.ensures.limits)
          (prints_cut f cut.0
          (subst (λ b. IsCutShort (within_trees (limits_of c.args.taking.now.shown)) b start new) piece cut.1)),
    )

pub returns-in_err-flush_before_waiting-clause-taken : goal.returns-in_err-flush_before_waiting-clause-taken
returns-in_err-flush_before_waiting-clause-taken g c = λ read now start items out stream told s shown.
    let W = types c.args.target.now.table in
    let mid = g.W.Write.contents (writer_of c.show_piece.new.output) in
    let new = g.W.Write.contents (writer_of c.flush_before_waiting.new.output) in
    let text = c.convert_item.new.text.items in
    let so = converts_step text s c.in_ok-step.ensures.limits c.in_ok-step.ensures.stands
    (c.in_ok-step.ensures.stepped read now s.knows.given s.knows.has) c.in_ok-step.ensures.between
    (known_as c.convert_item.new.conversion W c.args.target.now.id c.in_ok-step.step.item
    (ap types c.table.ensures) c.in_ok-convert_item.ensures.known)
    (subst (λ T. ConvertsItem c.args.target.now.all c.in_ok-step.step.item c.args.taking.now.conversion
    c.convert_item.new.conversion c.new-text.result.items text T W c.args.target.now.id (Ok tt))
    (ap types c.table.ensures) c.in_ok-convert_item.ensures.converted) c.new-text.ensures.items
    c.in_ok-convert_item.ensures.limits (appended stream text) in
    let piece = ap (λ l. stream ++ l) c.deref.ensures.value in
    let ends = put_stream so.puts.put (so.puts.limits ∙ c.in_ok-step.ensures.limits ∙ sym c.requires.shown)
    (piece ∙ so.puts.went) in
    let all = subst (λ b. HasShown c.show_piece.new.session b start mid) piece
    (c.in_ok-show_piece.ensures.shown stream start shown ends) in
    at_error (λ r. TakesNext c.args.target.now.all c.step.new.self read now c.convert_item.new.conversion
    c.show_piece.new.session W c.args.target.now.id items out start new told r)
    c.from_residual-in_err-flush_before_waiting.result (stop.Run fault.Write)
    (written_at c.in_err-flush_before_waiting.field-0.0 c.from_residual-in_err-flush_before_waiting.result
    c.in_err-flush_before_waiting.ensures.fault c.from_residual-in_err-flush_before_waiting.ensures.1) (
      stream ++ text,
      stops_cut so,
      shown_cut (shown_kept c.in_err-flush_before_waiting.ensures.bytes all),
    )

pub returns-clause-taken : goal.returns-clause-taken
returns-clause-taken g c = λ read now start items out stream told s shown.
    let W = types c.args.target.now.table in
    let mid = g.W.Write.contents (writer_of c.show_piece.new.output) in
    let text = c.convert_item.new.text.items in
    let so = converts_step text s c.in_ok-step.ensures.limits c.in_ok-step.ensures.stands
    (c.in_ok-step.ensures.stepped read now s.knows.given s.knows.has) c.in_ok-step.ensures.between
    (known_as c.convert_item.new.conversion W c.args.target.now.id c.in_ok-step.step.item
    (ap types c.table.ensures) c.in_ok-convert_item.ensures.known)
    (subst (λ T. ConvertsItem c.args.target.now.all c.in_ok-step.step.item c.args.taking.now.conversion
    c.convert_item.new.conversion c.new-text.result.items text T W c.args.target.now.id (Ok tt))
    (ap types c.table.ensures) c.in_ok-convert_item.ensures.converted) c.new-text.ensures.items
    c.in_ok-convert_item.ensures.limits (appended stream text) in
    let piece = ap (λ l. stream ++ l) c.deref.ensures.value in
    let ends = put_stream so.puts.put (so.puts.limits ∙ c.in_ok-step.ensures.limits ∙ sym c.requires.shown)
    (piece ∙ so.puts.went) in
    let all = subst (λ b. HasShown c.show_piece.new.session b start mid) piece
    (c.in_ok-show_piece.ensures.shown stream start shown ends) in
    (stream ++ text, so, shown_kept c.in_ok-flush_before_waiting.ensures.bytes all)

pub returns-clause-knows : goal.returns-clause-knows
returns-clause-knows g c = λ read now s.
    let st = c.in_ok-step.ensures.stepped read now s.given s.has in
    knows_on c.in_ok-step.ensures.used st
    (knows_step c.convert_item.new.conversion s c.in_ok-step.ensures.limits c.in_ok-step.ensures.stands st
    c.in_ok-step.ensures.between (none_same c.args.target.now.all c.args.taking.now.conversion
    c.convert_item.new.conversion c.new-text.result.items
    c.convert_item.new.text.items (types c.table.result.now) (types c.args.target.now.table) c.args.target.now.id (Ok
    tt)
    c.in_ok-step.step.item c.in_ok-convert_item.ensures.converted)
    (known_as c.convert_item.new.conversion (types c.args.target.now.table) c.args.target.now.id c.in_ok-step.step.item
    (ap types c.table.ensures) c.in_ok-convert_item.ensures.known))
