use Rattle.std.proofs.Common.{◌≡◌, ◌+◌, ◌++◌, ◌∙◌, ap, arith, false, length, refl, take}
use Rattle.std.proofs.lemmas.Grind.{common_steps}
use Rattle.gob_stream.specs.Calls.ReaderOf.{types_behind, waits_in}
use Rattle.gob_stream.specs.declared.fault.Fault.TheVariants as reading
use Rattle.gob_go.specs.Calls.Reader.{session_of}
use Rattle.gob_go.specs.GoStepping.{nothing_meant, passing_stepping}
use Rattle.gob_go.proofs.SessionAnswers.{stands}
use Rattle.gob_tool.specs.Fault.{reading_fault}
use Rattle.gob_tool.specs.declared.fault.ToolFault.TheVariants as fault
use Rattle.gob_tool.proofs.EndLaws.{at_error}
use Rattle.gob_tool.proofs.TextLaws.{no_memory}
use Rattle.gob_views.specs.Machine.PartStream.{TakesNext}
use Rattle.gob_views.proofs.PartStreamLaws.{taken_few, takes_on}
use Rattle.gob_views.proofs.part_stream.take_bytes.Goals as goal

pub returns-clause-taken : goal.returns-clause-taken
returns-clause-taken c = λ read now given h.
    let old = c.args.bytes.now in
    let waits = waits_in c.args.reader.now in
    let used = c.in_ok-used.field-0.used in
    let grew = c.extend_from_slice.new.self in
    let grown : c.extend_from_slice.new.self.items ≡ old.items ++ waits = grind (arith, common_steps) in
    rw c.is_some.ensures
    (takes_on h (c.in_ok-used.ensures.stepped read now given h) c.in_ok-used.ensures.used
    (c.truncate.ensures.items ∙ ap (λ l. take c.saturating_add.result l) grown
    ∙ taken_few c.saturating_add.result (c.len-before.result + used) (old.items ++ waits) c.saturating_add.ensures
    (omega (arith, grew.ok.0, grew.ok.1, grew.small, ap length grown))
    ∙ ap (λ n. take (n + used) (old.items ++ waits)) (c.len-before.ensures ∙ old.ok.0)))

pub returns-in_err-map_err-clause-taken : goal.returns-in_err-map_err-clause-taken
returns-in_err-map_err-clause-taken c = λ read now given h.
    let r = c.args.reader.now in
    at_error (λ res. TakesNext r r read now given c.args.bytes.now.items c.extend_from_slice.new.self.items res)
    c.from_residual.result fault.Memory c.from_residual.ensures.1 (record {
      table = types_behind passing_stepping h;
      fault = reading.Memory;
      is = refl;
      stops = no_memory passing_stepping (stands false nothing_meant (session_of r)).gives h;
    })

pub returns-in_err-used-clause-taken : goal.returns-in_err-used-clause-taken
returns-in_err-used-clause-taken c = λ read now given h.
    let e = c.in_err-used.field-0.0 in
    at_error (λ res. TakesNext c.args.reader.now c.step.new.self read now given c.args.bytes.now.items
    c.extend_from_slice.new.self.items res) c.from_residual-in_err-used.result (reading_fault e)
    c.from_residual-in_err-used.ensures.1 (record {
      table = types_behind passing_stepping h;
      fault = e;
      is = refl;
      stops = c.in_err-used.ensures.stepped read now given h;
    })
