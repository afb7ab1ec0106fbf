use Rattle.gob_stream.proofs.Reader.SessionAnswers.{passes}
use Rattle.gob_stream.proofs.Reader.SessionAnswers.{stands}
use Rattle.gob_stream.proofs.session_steps.SessionSteps.pass_values.Goals as goal

pub returns-clause-passed : goal.returns-clause-passed
returns-clause-passed g c = passes g.B.Builder.building c.pass_values.ensures.passed

pub returns-clause-stands : goal.returns-clause-stands
returns-clause-stands g c = stands g.B.Builder.building c.pass_values.new.self
