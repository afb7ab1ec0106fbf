use Rattle.gob_go.proofs.SessionSteps.{somewhere}
use Rattle.gob_go.proofs.session.GoSession.has_failed.Goals as goal

pub returns-in_default-clause-has_read : goal.returns-in_default-clause-has_read
returns-in_default-clause-has_read c = rw (← c.self.view_is) (λ sound. somewhere c.self.invariant sound)
