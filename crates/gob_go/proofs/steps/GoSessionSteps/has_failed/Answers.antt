use Rattle.gob_go.proofs.SessionAnswers.{failed_unread}
use Rattle.gob_go.proofs.steps.GoSessionSteps.has_failed.Goals as goal

pub returns-clause-unread : goal.returns-clause-unread
returns-clause-unread c = failed_unread c.args.self.now c.has_failed.result c.has_failed.ensures.failed
