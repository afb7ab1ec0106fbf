use Rattle.gob_go.proofs.SessionAnswers.{step_shows, steps}
use Rattle.gob_go.proofs.SessionAnswers.{stands}
use Rattle.std.proofs.Common.{refl, true}
use Rattle.gob_go.specs.Meaning.{ItemMeans}
use Rattle.gob_go.proofs.steps.GoSessionSteps.step.Goals as goal

pub returns-clause-stepped : goal.returns-clause-stepped
returns-clause-stepped c = λ items bytes h.
    steps (λ T g i. ItemMeans T g i) c.args.self.now c.step.new.self items bytes c.args.piece.now c.step.result h
    (c.step.ensures.advances items bytes h) (λ T g i m. m refl)

pub returns-clause-shown : goal.returns-clause-shown
returns-clause-shown c = λ items bytes h.
    step_shows true c.args.self.now c.step.new.self items bytes c.args.piece.now c.step.result
    (c.step.ensures.advances items bytes h)

pub returns-clause-stands : goal.returns-clause-stands
returns-clause-stands c = stands true (λ T g i. ItemMeans T g i) c.step.new.self

pub returns-clause-answers : goal.returns-clause-answers
returns-clause-answers c = record {
  advances = c.step.ensures.advances;
  taken = c.step.ensures.taken;
}
