use Rattle.std.proofs.Common.{false}
use Rattle.gob_go.specs.GoStepping.{nothing_meant}
use Rattle.gob_go.proofs.SessionAnswers.{passes, stands}
use Rattle.gob_go.proofs.passing.PassingSessionSteps.pass_values.Goals as goal

pub returns-clause-passed : goal.returns-clause-passed
returns-clause-passed c = rw (← c.self.view_is) (passes nothing_meant (c.pass_values.ensures.any false))

pub returns-clause-stands : goal.returns-clause-stands
returns-clause-stands c = stands false nothing_meant c.pass_values.new.self
