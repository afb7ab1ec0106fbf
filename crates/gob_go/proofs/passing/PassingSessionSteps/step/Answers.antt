use Rattle.std.proofs.Common.{false, subst, ℕ, List}
use Rattle.gob_filled.specs.Stream.{FilledItem}
use Rattle.gob_stream.specs.Stepping.{StepAnswersBy}
use Rattle.gob_go.specs.Calls.Session.{StandsAfter}
use Rattle.gob_go.specs.GoStepping.{nothing_meant, passing_stepping}
use Rattle.gob_go.proofs.SessionAnswers.{stands, step_shows, steps}
use Rattle.gob_go.proofs.passing.PassingSessionSteps.step.Goals as goal

pub returns-clause-stepped : goal.returns-clause-stepped
returns-clause-stepped c =
    subst (λ s. (items : List FilledItem) (bytes : List ℕ) (h : StandsAfter false s items bytes)
    → StepAnswersBy passing_stepping h.table s c.step.new.self items bytes c.args.piece.now c.step.result)
    c.self.view_is
    (λ items bytes h. steps nothing_meant c.self.inside.session c.step.new.self items bytes c.args.piece.now
    c.step.result h (c.step.ensures.any false items bytes h) (λ T g i m. tt))

pub returns-clause-shown : goal.returns-clause-shown
returns-clause-shown c =
    rw (← c.self.view_is) (λ items bytes h. step_shows false c.self.inside.session c.step.new.self items bytes
    c.args.piece.now c.step.result (c.step.ensures.any false items bytes h))

pub returns-clause-stands : goal.returns-clause-stands
returns-clause-stands c = stands false nothing_meant c.step.new.self

pub returns-clause-answers : goal.returns-clause-answers
returns-clause-answers c =
    rw (← c.self.view_is) (record { advances = c.step.ensures.any false; taken = c.step.ensures.taken })
