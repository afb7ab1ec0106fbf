use Rattle.gob_go.proofs.SessionAnswers.{failed_unread}
use Rattle.gob_go.proofs.passing.PassingSessionSteps.has_failed.Goals as goal

pub returns-clause-unread : goal.returns-clause-unread
returns-clause-unread c =
    rw (← c.self.view_is) (failed_unread c.self.inside.session c.has_failed.result c.has_failed.ensures.failed)
