-- What a step gave is converted, and goes out.
use Rattle.std.proofs.Common.{◌≡◌, ◌++◌, ap, refl, subst, sym, Ok, Err}
use Rattle.std.specs.Io.KnownBytes.{Appends}
use Rattle.gob_types.specs.Defined.{types}
use Rattle.gob_stream.specs.Calls.Ends.{failed_writes, writer_of}
use Rattle.gob_stream.specs.Calls.Writing.{SentPrefix}
use Rattle.gob_join.proofs.JoiningLaws.{appends_made, cut_short}
use Rattle.gob_tool.specs.Ending.{CountsOnlyWrites}
use Rattle.gob_tool.specs.Fault.{reading_fault, writing_fault}
use Rattle.gob_tool.specs.declared.fault.ToolFault.TheVariants as fault
use Rattle.gob_tool.proofs.EndLaws.{all_kept, at_error, fault_at, sent_prefix, write_counts, writing_unread}
use Rattle.gob_tool.proofs.EndLaws.{reading_unread}
use Rattle.gob_convert.specs.Faults.{IsBefore, OfRun}
use Rattle.gob_convert.specs.declared.fault.ConvertFault.TheVariants as stop
use Rattle.gob_convert.specs.Machine.Converting.{ConvertsItem, ConvertsNext, StopsConverting}
use Rattle.gob_convert.proofs.ConvertingLaws.{converts_cut, converts_kept, converts_refused, converts_step}
use Rattle.gob_convert.proofs.ConvertingLaws.{converts_stopped, known_behind, knows_step, last_behind, none_same}
use Rattle.gob_convert.proofs.ConvertingLaws.{put_own, put_unread, put_writes, reading_own, reading_writes}
use Rattle.gob_convert.proofs.ConvertingLaws.{known_as, knows_on, under_limits, writing_own, written_at}
use Rattle.gob_convert.proofs.run.convert_next.Goals as goal

pub convert_item-requires-clause-known : goal.convert_item-requires-clause-known
convert_item-requires-clause-known g c =
    let k = c.requires.knows in
    known_behind (types c.table.result.now) (ap types c.table.ensures) k.so c.in_ok-step.ensures.limits
    (c.in_ok-step.ensures.stepped k.read k.now k.so.given k.so.has) c.in_ok-step.ensures.between

pub convert_item-requires-clause-last : goal.convert_item-requires-clause-last
convert_item-requires-clause-last g c =
    let k = c.requires.knows in
    last_behind (types c.table.result.now) (ap types c.table.ensures)
    (c.in_ok-step.ensures.stepped k.read k.now k.so.given k.so.has) c.in_ok-step.ensures.between

pub returns-in_err-step-clause-converted : goal.returns-in_err-step-clause-converted
returns-in_err-step-clause-converted g c = λ read now start items out told s.
    let e = c.in_err-step.field-0.0 in
    at_error (λ r. ConvertsNext c.args.target.now.all c.step.new.self read now c.args.conversion.now
    (types c.args.target.now.table) c.args.target.now.id items out start
    (g.W.Write.contents (writer_of c.args.output.now)) told r) c.from_residual.result (stop.Run (reading_fault e))
    c.from_residual.ensures.1
    (under_limits c.args.reader.now c.step.new.self (stop.Run (reading_fault e)) c.in_err-step.ensures.limits
    (converts_stopped s now e (c.in_err-step.ensures.stepped read now s.knows.given s.knows.has)))

pub returns-in_err-convert_item-clause-converted : goal.returns-in_err-convert_item-clause-converted
returns-in_err-convert_item-clause-converted g c = λ read now start items out told s.
    let e = c.in_err-convert_item.field-0.0 in
    let W = types c.args.target.now.table in
    at_error (λ r. ConvertsNext c.args.target.now.all c.step.new.self read now c.convert_item.new.conversion W
    c.args.target.now.id items out start (g.W.Write.contents (writer_of c.args.output.now)) told r)
    c.from_residual-in_err-convert_item.result e c.from_residual-in_err-convert_item.ensures.1
    (subst (λ telling. StopsConverting c.args.target.now.all c.step.new.self read now W c.args.target.now.id items start
    (g.W.Write.contents (writer_of c.args.output.now)) told telling e) (sym c.in_err-convert_item.ensures.kept)
    (converts_refused c.convert_item.new.conversion c.new-text.result.items c.convert_item.new.text.items s e
    c.in_ok-step.ensures.limits c.in_ok-step.ensures.stands
    (c.in_ok-step.ensures.stepped read now s.knows.given s.knows.has) c.in_ok-step.ensures.between
    (subst (λ T. ConvertsItem c.args.target.now.all c.in_ok-step.step.item c.args.conversion.now
    c.convert_item.new.conversion c.new-text.result.items c.convert_item.new.text.items T W c.args.target.now.id (Err
    e))
    (ap types c.table.ensures) c.in_err-convert_item.ensures.converted)))

pub returns-in_err-send_all-clause-converted : goal.returns-in_err-send_all-clause-converted
returns-in_err-send_all-clause-converted g c = λ read now start items out told s.
    let W = types c.args.target.now.table in
    let mid = g.W.Write.contents (writer_of c.args.output.now) in
    let new = g.W.Write.contents (writer_of c.send_all.new.self) in
    let text = c.convert_item.new.text.items in
    let so = converts_step text s c.in_ok-step.ensures.limits c.in_ok-step.ensures.stands
    (c.in_ok-step.ensures.stepped read now s.knows.given s.knows.has) c.in_ok-step.ensures.between
    (known_as c.convert_item.new.conversion (types c.args.target.now.table) c.args.target.now.id c.in_ok-step.step.item
    (ap types c.table.ensures) c.in_ok-convert_item.ensures.known)
    (subst (λ T. ConvertsItem c.args.target.now.all c.in_ok-step.step.item c.args.conversion.now
    c.convert_item.new.conversion c.new-text.result.items text T W c.args.target.now.id (Ok tt))
    (ap types c.table.ensures) c.in_ok-convert_item.ensures.converted) c.new-text.ensures.items
    c.in_ok-convert_item.ensures.limits (appends_made mid text) in
    at_error (λ r. ConvertsNext c.args.target.now.all c.step.new.self read now c.convert_item.new.conversion W
    c.args.target.now.id items out start new told r)
    c.from_residual-in_err-send_all.result (stop.Run fault.Write)
    (written_at c.in_err-send_all.field-0.0 c.from_residual-in_err-send_all.result c.in_err-send_all.ensures.fault
    c.from_residual-in_err-send_all.ensures.1)
    (converts_cut so new (sent_prefix start new (out ++ so.puts.more) (cut_short start mid new (out ++ s.puts.more) text
    (out ++ so.puts.more) s.puts.went
    (subst (λ l. SentPrefix l mid new) c.deref.ensures.value c.in_err-send_all.ensures.prefix) so.puts.went)))

pub returns-in_err-flush_before_waiting-clause-converted : goal.returns-in_err-flush_before_waiting-clause-converted
returns-in_err-flush_before_waiting-clause-converted g c = λ read now start items out told s.
    let W = types c.args.target.now.table in
    let mid = g.W.Write.contents (writer_of c.args.output.now) in
    let sent = g.W.Write.contents (writer_of c.send_all.new.self) in
    let new = g.W.Write.contents (writer_of c.flush_before_waiting.new.output) in
    let text = c.convert_item.new.text.items in
    let so = converts_step text s c.in_ok-step.ensures.limits c.in_ok-step.ensures.stands
    (c.in_ok-step.ensures.stepped read now s.knows.given s.knows.has) c.in_ok-step.ensures.between
    (known_as c.convert_item.new.conversion (types c.args.target.now.table) c.args.target.now.id c.in_ok-step.step.item
    (ap types c.table.ensures) c.in_ok-convert_item.ensures.known)
    (subst (λ T. ConvertsItem c.args.target.now.all c.in_ok-step.step.item c.args.conversion.now
    c.convert_item.new.conversion c.new-text.result.items text T W c.args.target.now.id (Ok tt))
    (ap types c.table.ensures) c.in_ok-convert_item.ensures.converted) c.new-text.ensures.items
    c.in_ok-convert_item.ensures.limits
    (subst (λ l. Appends mid sent l) c.deref.ensures.value c.in_ok-send_all.ensures.ok) in
    at_error (λ r. ConvertsNext c.args.target.now.all c.step.new.self read now c.convert_item.new.conversion W
    c.args.target.now.id items out start new told r)
    c.from_residual-in_err-flush_before_waiting.result (stop.Run fault.Write)
    (written_at c.in_err-flush_before_waiting.field-0.0 c.from_residual-in_err-flush_before_waiting.result
    c.in_err-flush_before_waiting.ensures.fault c.from_residual-in_err-flush_before_waiting.ensures.1)
    (converts_cut so new (all_kept start sent new (out ++ so.puts.more) so.puts.went
    c.in_err-flush_before_waiting.ensures.bytes))

pub returns-clause-converted : goal.returns-clause-converted
returns-clause-converted g c = λ read now start items out told s.
    let W = types c.args.target.now.table in
    let mid = g.W.Write.contents (writer_of c.args.output.now) in
    let sent = g.W.Write.contents (writer_of c.send_all.new.self) in
    let new = g.W.Write.contents (writer_of c.flush_before_waiting.new.output) in
    let text = c.convert_item.new.text.items in
    let so = converts_step text s c.in_ok-step.ensures.limits c.in_ok-step.ensures.stands
    (c.in_ok-step.ensures.stepped read now s.knows.given s.knows.has) c.in_ok-step.ensures.between
    (known_as c.convert_item.new.conversion (types c.args.target.now.table) c.args.target.now.id c.in_ok-step.step.item
    (ap types c.table.ensures) c.in_ok-convert_item.ensures.known)
    (subst (λ T. ConvertsItem c.args.target.now.all c.in_ok-step.step.item c.args.conversion.now
    c.convert_item.new.conversion c.new-text.result.items text T W c.args.target.now.id (Ok tt))
    (ap types c.table.ensures) c.in_ok-convert_item.ensures.converted) c.new-text.ensures.items
    c.in_ok-convert_item.ensures.limits
    (subst (λ l. Appends mid sent l) c.deref.ensures.value c.in_ok-send_all.ensures.ok) in
    converts_kept so new c.in_ok-flush_before_waiting.ensures.bytes

pub returns-clause-knows : goal.returns-clause-knows
returns-clause-knows g c = λ read now s.
    let st = c.in_ok-step.ensures.stepped read now s.given s.has in
    knows_on c.in_ok-step.ensures.used st
    (knows_step c.convert_item.new.conversion s c.in_ok-step.ensures.limits c.in_ok-step.ensures.stands st
    c.in_ok-step.ensures.between (none_same c.args.target.now.all c.args.conversion.now c.convert_item.new.conversion
    c.new-text.result.items
    c.convert_item.new.text.items (types c.table.result.now) (types c.args.target.now.table) c.args.target.now.id (Ok
    tt)
    c.in_ok-step.step.item c.in_ok-convert_item.ensures.converted)
    (known_as c.convert_item.new.conversion (types c.args.target.now.table) c.args.target.now.id c.in_ok-step.step.item
    (ap types c.table.ensures) c.in_ok-convert_item.ensures.known))

-- ---- what is counted
pub returns-in_err-step-clause-own : goal.returns-in_err-step-clause-own
returns-in_err-step-clause-own g c = fault_at (λ f. IsBefore f → ⊥) c.from_residual.result
    (stop.Run (reading_fault c.in_err-step.field-0.0)) c.from_residual.ensures.1 (reading_own c.in_err-step.field-0.0)

pub returns-in_err-step-clause-unread : goal.returns-in_err-step-clause-unread
returns-in_err-step-clause-unread g c =
    let e = c.in_err-step.field-0.0 in
    fault_at (λ f. f ≡ stop.Run fault.Read → ⊥) c.from_residual.result (stop.Run (reading_fault e))
    c.from_residual.ensures.1 (λ is. reading_unread e c.in_err-step.ensures.unread (cc))

pub returns-in_err-step-clause-writes : goal.returns-in_err-step-clause-writes
returns-in_err-step-clause-writes g c =
    let n = failed_writes c.args.output.now in
    at_error (λ r. OfRun (CountsOnlyWrites n n) r) c.from_residual.result
    (stop.Run (reading_fault c.in_err-step.field-0.0)) c.from_residual.ensures.1
    (reading_writes n n c.in_err-step.field-0.0 refl)

pub returns-in_err-convert_item-clause-own : goal.returns-in_err-convert_item-clause-own
returns-in_err-convert_item-clause-own g c = fault_at (λ f. IsBefore f → ⊥) c.from_residual-in_err-convert_item.result
    c.in_err-convert_item.field-0.0 c.from_residual-in_err-convert_item.ensures.1
    (put_own c.in_err-convert_item.field-0.0 c.in_err-convert_item.ensures.fault)

pub returns-in_err-convert_item-clause-unread : goal.returns-in_err-convert_item-clause-unread
returns-in_err-convert_item-clause-unread g c = fault_at (λ f. f ≡ stop.Run fault.Read → ⊥)
    c.from_residual-in_err-convert_item.result c.in_err-convert_item.field-0.0
    c.from_residual-in_err-convert_item.ensures.1
    (put_unread c.in_err-convert_item.field-0.0 c.in_err-convert_item.ensures.fault)

pub returns-in_err-convert_item-clause-writes : goal.returns-in_err-convert_item-clause-writes
returns-in_err-convert_item-clause-writes g c =
    let n = failed_writes c.args.output.now in
    at_error (λ r. OfRun (CountsOnlyWrites n n) r) c.from_residual-in_err-convert_item.result
    c.in_err-convert_item.field-0.0 c.from_residual-in_err-convert_item.ensures.1
    (put_writes n c.in_err-convert_item.field-0.0 c.in_err-convert_item.ensures.fault)

pub returns-in_err-send_all-clause-own : goal.returns-in_err-send_all-clause-own
returns-in_err-send_all-clause-own g c = fault_at (λ f. IsBefore f → ⊥) c.from_residual-in_err-send_all.result
    (stop.Run (writing_fault c.in_err-send_all.field-0.0)) c.from_residual-in_err-send_all.ensures.1
    (writing_own c.in_err-send_all.field-0.0)

pub returns-in_err-send_all-clause-unread : goal.returns-in_err-send_all-clause-unread
returns-in_err-send_all-clause-unread g c =
    let e = c.in_err-send_all.field-0.0 in
    fault_at (λ f. f ≡ stop.Run fault.Read → ⊥) c.from_residual-in_err-send_all.result (stop.Run (writing_fault e))
    c.from_residual-in_err-send_all.ensures.1 (λ is. writing_unread e (cc))

pub returns-in_err-send_all-clause-writes : goal.returns-in_err-send_all-clause-writes
returns-in_err-send_all-clause-writes g c =
    let e = c.in_err-send_all.field-0.0 in
    at_error (λ r. OfRun (CountsOnlyWrites (failed_writes c.args.output.now) (failed_writes c.send_all.new.self)) r)
    c.from_residual-in_err-send_all.result (stop.Run (writing_fault e)) c.from_residual-in_err-send_all.ensures.1
    (write_counts _ _ _ e c.in_err-send_all.ensures.fault refl c.in_err-send_all.ensures.counted)

pub returns-in_err-flush_before_waiting-clause-own : goal.returns-in_err-flush_before_waiting-clause-own
returns-in_err-flush_before_waiting-clause-own g c = fault_at (λ f. IsBefore f → ⊥)
    c.from_residual-in_err-flush_before_waiting.result
    (stop.Run (writing_fault c.in_err-flush_before_waiting.field-0.0))
    c.from_residual-in_err-flush_before_waiting.ensures.1 (writing_own c.in_err-flush_before_waiting.field-0.0)

pub returns-in_err-flush_before_waiting-clause-unread : goal.returns-in_err-flush_before_waiting-clause-unread
returns-in_err-flush_before_waiting-clause-unread g c =
    let e = c.in_err-flush_before_waiting.field-0.0 in
    fault_at (λ f. f ≡ stop.Run fault.Read → ⊥) c.from_residual-in_err-flush_before_waiting.result
    (stop.Run (writing_fault e)) c.from_residual-in_err-flush_before_waiting.ensures.1 (λ is. writing_unread e (cc))

pub returns-in_err-flush_before_waiting-clause-writes : goal.returns-in_err-flush_before_waiting-clause-writes
returns-in_err-flush_before_waiting-clause-writes g c =
    let e = c.in_err-flush_before_waiting.field-0.0 in
    at_error (λ r. OfRun (CountsOnlyWrites (failed_writes c.args.output.now)
    (failed_writes c.flush_before_waiting.new.output)) r) c.from_residual-in_err-flush_before_waiting.result
    (stop.Run (writing_fault e)) c.from_residual-in_err-flush_before_waiting.ensures.1
    (write_counts _ _ _ e c.in_err-flush_before_waiting.ensures.fault c.in_ok-send_all.ensures.counted
    c.in_err-flush_before_waiting.ensures.counted)
