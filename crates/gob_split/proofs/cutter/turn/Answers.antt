use Rattle.std.proofs.Common.{rules, Option, subst}
use Rattle.gob_split.specs.Machine.Cutting.{CountsLast}
use Rattle.gob_split.specs.declared.cutter.Filling.{Filling}
use Rattle.gob_split.proofs.CutterLaws.{done_so, none_done, stays_so, turns_so}
use Rattle.gob_split.proofs.cutter.turn.Goals.{in_default-via-in-Some+else-not-is_done, in_default-via-in_default}
use Rattle.gob_split.proofs.cutter.turn.Goals as goal

pub returns-in-Some-clause-turned : goal.returns-in-Some-clause-turned
returns-in-Some-clause-turned g c = λ full part before k old.
    stays_so c.args.size c.args.defining.now full before (g.P.Parts.are c.args.parts.now) part c.in-Some.filling
    (subst (λ (o : Option Filling). CountsLast o part) c.in-Some.is k)
    (λ p counts. c.is_done.ensures.room (search rules) p counts) old

pub returns-in_default-clause-turned : goal.returns-in_default-clause-turned
returns-in_default-clause-turned g c = λ full part before k old.
    turns_so c.args.size c.args.defining.now full before (g.P.Parts.are c.begin.new.parts) part c.begin.result
    (elim c.in_default.branch [
      | in_default-via-in-Some+else-not-is_done w ↦
          done_so c.args.size part w.in-Some.filling (subst (λ (o : Option Filling). CountsLast o part) w.in-Some.is k)
          (λ p counts. w.is_done.ensures.done (search rules) p counts)
      | in_default-via-in_default w ↦
          none_done c.args.size part (subst (λ (o : Option Filling). CountsLast o part) w.in_default.is k)
    ])
    (c.begin.ensures.begun _ old)
