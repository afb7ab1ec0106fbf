use Rattle.gob_stream.proofs.Reader.SessionAnswers.{step_shows, steps}
use Rattle.gob_stream.proofs.Reader.SessionAnswers.{stands}
use Rattle.gob_stream.proofs.session_steps.SessionSteps.step.Goals as goal

pub returns-clause-stepped : goal.returns-clause-stepped
returns-clause-stepped g c = λ items bytes h.
    steps g.B.Builder.building c.args.self.now c.step.new.self items bytes c.args.piece.now c.step.result h
    c.step.ensures.types (c.step.ensures.advances items bytes h)

pub returns-clause-shown : goal.returns-clause-shown
returns-clause-shown g c = λ items bytes h.
    step_shows g.B.Builder.building c.args.self.now c.step.new.self items bytes c.args.piece.now c.step.result
    (c.step.ensures.advances items bytes h)

pub returns-clause-stands : goal.returns-clause-stands
returns-clause-stands g c = stands g.B.Builder.building c.step.new.self

pub returns-clause-answers : goal.returns-clause-answers
returns-clause-answers g c = record {
  advances = c.step.ensures.advances;
  types = c.step.ensures.types;
  taken = c.step.ensures.taken;
}
