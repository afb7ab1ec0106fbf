use Rattle.gob_go.proofs.SessionAnswers.{passes}
use Rattle.gob_go.proofs.SessionAnswers.{stands}
use Rattle.std.proofs.Common.{true}
use Rattle.gob_go.specs.Meaning.{ItemMeans}
use Rattle.gob_go.proofs.steps.GoSessionSteps.pass_values.Goals as goal

pub returns-clause-passed : goal.returns-clause-passed
returns-clause-passed c = passes (λ T g i. ItemMeans T g i) c.pass_values.ensures.passed

pub returns-clause-stands : goal.returns-clause-stands
returns-clause-stands c = stands true (λ T g i. ItemMeans T g i) c.pass_values.new.self
