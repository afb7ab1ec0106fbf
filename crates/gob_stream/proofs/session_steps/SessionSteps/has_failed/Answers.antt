use Rattle.gob_stream.proofs.Reader.SessionAnswers.{failed_unread}
use Rattle.gob_stream.proofs.session_steps.SessionSteps.has_failed.Goals as goal

pub returns-clause-unread : goal.returns-clause-unread
returns-clause-unread g c =
    failed_unread g.B.Builder.building c.args.self.now c.has_failed.result c.has_failed.ensures.failed
