use Rattle.gob_stream.proofs.Reader.SessionAnswers.{of_ok}
use Rattle.gob_go.proofs.SessionAnswers.{nothing_filled, stands}
use Rattle.std.proofs.Common.{true}
use Rattle.gob_go.specs.Meaning.{ItemMeans}
use Rattle.gob_go.proofs.steps.GoSessionSteps.begin.Goals as goal

pub returns-clause-stands : goal.returns-clause-stands
returns-clause-stands c = of_ok c.new.result (λ s. stands true (λ T g i. ItemMeans T g i) s)

pub returns-clause-nothing : goal.returns-clause-nothing
returns-clause-nothing c = nothing_filled _
