use Rattle.gob_go.proofs.SessionAnswers.{gives_all}
use Rattle.std.proofs.Common.{false}
use Rattle.gob_go.specs.GoStepping.{nothing_meant}
use Rattle.gob_go.proofs.passing.PassingSessionSteps.fail.Goals as goal

pub returns-clause-given : goal.returns-clause-given
returns-clause-given c = gives_all false nothing_meant c.args.self.now
