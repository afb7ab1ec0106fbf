use Rattle.gob_stream.proofs.Reader.SessionAnswers.{item_next, passes_on}
use Rattle.gob_stream.proofs.Reader.SessionAnswers.{stands}
use Rattle.gob_stream.proofs.session_steps.SessionSteps.pass.Goals as goal

pub pass-requires-clause-item : goal.pass-requires-clause-item
pass-requires-clause-item g c = item_next g.B.Builder.building c.args.self.now c.requires.item

pub returns-clause-passed : goal.returns-clause-passed
returns-clause-passed g c = passes_on g.B.Builder.building c.pass.ensures.passed

pub returns-clause-stands : goal.returns-clause-stands
returns-clause-stands g c = stands g.B.Builder.building c.pass.new.self
