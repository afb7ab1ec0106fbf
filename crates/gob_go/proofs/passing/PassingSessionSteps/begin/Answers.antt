use Rattle.std.proofs.Common.{false}
use Rattle.gob_go.specs.GoStepping.{nothing_meant}
use Rattle.gob_go.proofs.SessionAnswers.{nothing_filled, stands}
use Rattle.gob_go.proofs.passing.PassingSessionSteps.begin.Goals as goal

pub returns-in_err-session-clause-nothing : goal.returns-in_err-session-clause-nothing
returns-in_err-session-clause-nothing c = nothing_filled _

pub returns-clause-stands : goal.returns-clause-stands
returns-clause-stands c = stands false nothing_meant _

pub returns-clause-nothing : goal.returns-clause-nothing
returns-clause-nothing c = nothing_filled _
