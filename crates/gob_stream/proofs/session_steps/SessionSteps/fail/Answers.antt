use Rattle.gob_stream.proofs.Reader.SessionAnswers.{gives_all}
use Rattle.gob_stream.proofs.session_steps.SessionSteps.fail.Goals as goal

pub returns-clause-given : goal.returns-clause-given
returns-clause-given g c = gives_all g.B.Builder.building c.args.self.now
