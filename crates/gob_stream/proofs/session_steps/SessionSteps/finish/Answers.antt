use Rattle.gob_stream.proofs.Reader.SessionAnswers.{end_reason, end_stays, finishes}
use Rattle.gob_stream.proofs.session_steps.SessionSteps.finish.Goals as goal

pub returns-clause-finished : goal.returns-clause-finished
returns-clause-finished g c = λ items bytes h.
    finishes g.B.Builder.building c.args.self.now c.finish.new.self items bytes c.finish.result c.finish.ensures.types h
    (c.finish.ensures.finishes items bytes h)

pub returns-clause-whole : goal.returns-clause-whole
returns-clause-whole g c = λ items bytes h.
    end_stays g.B.Builder.building c.args.self.now c.finish.new.self items bytes c.finish.result
    (c.finish.ensures.finishes items bytes h)

pub returns-clause-ended : goal.returns-clause-ended
returns-clause-ended g c = λ items bytes h.
    end_reason g.B.Builder.building c.args.self.now c.finish.new.self items bytes c.finish.result
    (c.finish.ensures.finishes items bytes h)
