use Rattle.gob_go.proofs.SessionAnswers.{gives_all}
use Rattle.std.proofs.Common.{true}
use Rattle.gob_go.specs.Meaning.{ItemMeans}
use Rattle.gob_go.proofs.steps.GoSessionSteps.fail.Goals as goal

pub returns-clause-given : goal.returns-clause-given
returns-clause-given c = gives_all true (λ T g i. ItemMeans T g i) c.args.self.now
