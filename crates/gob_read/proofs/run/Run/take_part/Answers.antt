use Rattle.std.proofs.Common.{inl, arith, sym, subst, ◌∙◌, Ok}
use Rattle.std.specs.Prelude.{IfOk, IfErr}
use Rattle.gob_read.specs.Machine.Running.{IsBefore, RestAnswers}
use Rattle.gob_read.specs.Machine.Nil.{StepsClear, StopsHere}
use Rattle.gob_read.specs.declared.next.Next.TheVariants.{Number}
use Rattle.gob_read.specs.declared.next.NextNumber.TheVariants.{Part}
use Rattle.gob_read.proofs.Machine.BasicPartSteps.{taken_parts, no_parts, parts_fresh}
use Rattle.gob_read.proofs.run.Run.take_part.Goals as goal

pub returns-then-skipped-gt0-clause-taken : goal.returns-then-skipped-gt0-clause-taken
returns-then-skipped-gt0-clause-taken g c = taken_parts c.skip_parts-skipped.ensures (omega arith)

pub returns-then-skipped-gt0-clause-clear : goal.returns-then-skipped-gt0-clause-clear
returns-then-skipped-gt0-clause-clear g c = inl (parts_fresh c.skip_parts-skipped.ensures (omega arith))

pub take_basic_parts-requires : goal.take_basic_parts-requires
take_basic_parts-requires g c =
    subst (λ r. IsBefore (g.S.Shapes.table c.args.shapes.now) g.B.Builder.building.received r
    (Number (Part c.args.id)) c.args.rest.now)
    (sym (no_parts c.skip_parts-skipped.ensures (omega arith))) c.requires

pub returns-then-taken-gt0-clause-taken : goal.returns-then-taken-gt0-clause-taken
returns-then-taken-gt0-clause-taken g c =
    subst (λ r. RestAnswers (g.S.Shapes.table c.args.shapes.now) g.B.Builder.building.received r
    c.take_basic_parts.new.self c.args.rest.now (Ok c.in_ok-taken.taken))
    (no_parts c.skip_parts-skipped.ensures (omega arith)) (taken_parts c.in_ok-taken.ensures (omega arith))

pub returns-then-taken-gt0-clause-clear : goal.returns-then-taken-gt0-clause-clear
returns-then-taken-gt0-clause-clear g c = inl (parts_fresh c.in_ok-taken.ensures (omega arith))

pub take_number-requires : goal.take_number-requires
take_number-requires g c =
    let same = no_parts c.in_ok-taken.ensures (omega arith) ∙ no_parts c.skip_parts-skipped.ensures (omega arith) in
    subst (λ r. IsBefore (g.S.Shapes.table c.args.shapes.now) g.B.Builder.building.received r
    (Number (Part c.args.id)) c.args.rest.now) (sym same) c.requires

pub returns-clause-taken : goal.returns-clause-taken
returns-clause-taken g c =
    let same = no_parts c.in_ok-taken.ensures (omega arith) ∙ no_parts c.skip_parts-skipped.ensures (omega arith) in
    subst (λ r. RestAnswers (g.S.Shapes.table c.args.shapes.now) g.B.Builder.building.received r
    c.take_number.new.self c.args.rest.now c.take_number.result) same c.take_number.ensures.taken

pub returns-clause-clear : goal.returns-clause-clear
returns-clause-clear g c =
    let same = no_parts c.in_ok-taken.ensures (omega arith) ∙ no_parts c.skip_parts-skipped.ensures (omega arith) in
    subst (λ r. IfOk c.take_number.result (λ _. StepsClear r c.take_number.new.self)) same c.take_number.ensures.clear

pub returns-clause-here : goal.returns-clause-here
returns-clause-here g c =
    let same = no_parts c.in_ok-taken.ensures (omega arith) ∙ no_parts c.skip_parts-skipped.ensures (omega arith) in
    subst (λ r. IfErr c.take_number.result (StopsHere r)) same c.take_number.ensures.here
