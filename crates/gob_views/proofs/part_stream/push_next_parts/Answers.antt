-- The lines of the parts that are whole with the bytes that were taken.
use Rattle.std.proofs.Common.{◌≡◌, IfErr, false, refl}
use Rattle.gob_stream.specs.Calls.ReaderOf.{types_behind}
use Rattle.gob_stream.specs.declared.fault.Fault.TheVariants as reading
use Rattle.gob_go.specs.Calls.Reader.{session_of}
use Rattle.gob_go.specs.GoStepping.{nothing_meant, passing_stepping}
use Rattle.gob_go.proofs.SessionAnswers.{stands}
use Rattle.gob_tool.specs.declared.fault.ToolFault.TheVariants as fault
use Rattle.gob_tool.proofs.EndLaws.{at_error}
use Rattle.gob_tool.proofs.TextLaws.{no_memory}
use Rattle.gob_views.specs.Machine.PartStream.{MakesNextParts}
use Rattle.gob_views.proofs.part_stream.push_next_parts.Goals as goal

pub returns-in_err-is_whole-clause-made : goal.returns-in_err-is_whole-clause-made
returns-in_err-is_whole-clause-made c = λ read now given h.
    let how = c.args.how in
    let left = c.args.left.now in
    let text = c.args.text.now.items in
    at_error (λ res. MakesNextParts how.lines how.style how.begun c.args.reader.now c.take_bytes.new.reader read now
    given left.ahead left.ahead left.bytes.items c.take_bytes.new.bytes.items text text res) c.from_residual.result
    c.in_err-is_whole.field-0.0 c.from_residual.ensures.1 (c.in_err-is_whole.ensures.taken read now given h)

pub returns-in_err-is_whole-clause-unread : goal.returns-in_err-is_whole-clause-unread
returns-in_err-is_whole-clause-unread c =
    at_error (λ r. IfErr r (λ f. (f ≡ fault.Read → ⊥) × (f ≡ fault.Write → ⊥))) c.from_residual.result
    c.in_err-is_whole.field-0.0 c.from_residual.ensures.1 c.in_err-is_whole.ensures.unread

pub returns-in_err-push_parts_whole-clause-made : goal.returns-in_err-push_parts_whole-clause-made
returns-in_err-push_parts_whole-clause-made c = λ read now given h.
    let r = c.args.reader.now in
    let how = c.args.how in
    let old = c.args.left.now in
    let new = c.push_parts_whole.new.left in
    at_error (λ res. MakesNextParts how.lines how.style how.begun r c.take_bytes.new.reader read now given old.ahead
    new.ahead old.bytes.items new.bytes.items c.args.text.now.items c.push_parts_whole.new.text.items res)
    c.from_residual-in_err-push_parts_whole.result fault.Memory c.from_residual-in_err-push_parts_whole.ensures.1
    (record {
      table = types_behind passing_stepping h;
      fault = reading.Memory;
      is = refl;
      stops = no_memory passing_stepping (stands false nothing_meant (session_of r)).gives h;
    })

pub returns-in_err-push_parts_whole-clause-unread : goal.returns-in_err-push_parts_whole-clause-unread
returns-in_err-push_parts_whole-clause-unread c =
    at_error (λ r. IfErr r (λ f. (f ≡ fault.Read → ⊥) × (f ≡ fault.Write → ⊥)))
    c.from_residual-in_err-push_parts_whole.result fault.Memory c.from_residual-in_err-push_parts_whole.ensures.1
    (λ e. cc, λ e. cc)

pub returns-clause-made : goal.returns-clause-made
returns-clause-made c = λ read now given h. record {
  grown = c.take_bytes.new.bytes.items;
  takes = c.in_ok-is_whole.ensures.taken read now given h;
  prints = λ each. rw c.table.ensures at (c.in_ok-push_parts_whole.ensures each);
}
