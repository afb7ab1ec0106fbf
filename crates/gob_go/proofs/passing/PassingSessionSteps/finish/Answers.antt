use Rattle.std.proofs.Common.{ap, false, subst, ℕ, List}
use Rattle.gob_types.specs.Defined.{types}
use Rattle.gob_filled.specs.Stream.{FilledItem}
use Rattle.gob_stream.specs.Stepping.{FinishAnswersBy}
use Rattle.gob_go.specs.Calls.Session.{StandsAfter}
use Rattle.gob_go.specs.GoStepping.{nothing_meant, passing_stepping}
use Rattle.gob_go.proofs.SessionAnswers.{end_reason, end_stays, finishes}
use Rattle.gob_go.proofs.passing.PassingSessionSteps.finish.Goals as goal

pub returns-clause-finished : goal.returns-clause-finished
returns-clause-finished c =
    subst (λ s. (items : List FilledItem) (bytes : List ℕ) (h : StandsAfter false s items bytes)
    → FinishAnswersBy passing_stepping h.table s c.finish.new.self items bytes c.finish.result) c.self.view_is
    (λ items bytes h. finishes nothing_meant c.self.inside.session c.finish.new.self items bytes c.finish.result
    (ap (λ d. types d) c.finish.ensures.types) h (c.finish.ensures.any false items bytes h))

pub returns-clause-whole : goal.returns-clause-whole
returns-clause-whole c =
    rw (← c.self.view_is) (λ items bytes h. end_stays c.self.inside.session c.finish.new.self items bytes
    c.finish.result (c.finish.ensures.any false items bytes h))

pub returns-clause-ended : goal.returns-clause-ended
returns-clause-ended c =
    rw (← c.self.view_is) (λ items bytes h. end_reason c.self.inside.session c.finish.new.self items bytes
    c.finish.result (c.finish.ensures.any false items bytes h))
