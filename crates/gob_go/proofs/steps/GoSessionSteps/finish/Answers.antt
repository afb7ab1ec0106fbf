use Rattle.std.proofs.Common.{ap}
use Rattle.gob_types.specs.Defined.{types}
use Rattle.gob_go.proofs.SessionAnswers.{end_reason, end_stays, finishes}
use Rattle.gob_go.specs.Meaning.{ItemMeans}
use Rattle.gob_go.proofs.steps.GoSessionSteps.finish.Goals as goal

pub returns-clause-finished : goal.returns-clause-finished
returns-clause-finished c = λ items bytes h.
    finishes (λ T g i. ItemMeans T g i) c.args.self.now c.finish.new.self items bytes c.finish.result
    (ap (λ d. types d) c.finish.ensures.types) h
    (c.finish.ensures.finishes items bytes h)

pub returns-clause-whole : goal.returns-clause-whole
returns-clause-whole c = λ items bytes h.
    end_stays c.args.self.now c.finish.new.self items bytes c.finish.result (c.finish.ensures.finishes items bytes h)

pub returns-clause-ended : goal.returns-clause-ended
returns-clause-ended c = λ items bytes h.
    end_reason c.args.self.now c.finish.new.self items bytes c.finish.result
    (c.finish.ensures.finishes items bytes h)
