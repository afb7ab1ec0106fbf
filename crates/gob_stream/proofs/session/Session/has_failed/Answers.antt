use Rattle.gob_stream.proofs.Reader.SessionSteps.{somewhere}
use Rattle.gob_stream.proofs.session.Session.has_failed.Goals as goal

pub returns-in_default-clause-has_read : goal.returns-in_default-clause-has_read
returns-in_default-clause-has_read g c = rw (← c.self.view_is) (λ sound. somewhere c.self.invariant sound)
