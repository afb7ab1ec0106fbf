-- A stream of the format defines as many types as it has items that define one.
use Rattle.gob_stream.specs.Outcome.{strict}
use Rattle.gob_tool.proofs.CheckLaws.{checks_by, defined_so}
use Rattle.gob_tool.proofs.check.run_check.Goals as goal

pub returns-clause-checked : goal.returns-clause-checked
returns-clause-checked g c = λ bytes known.
    checks_by strict (λ items bytes T s. defined_so items bytes T s) (c.run_check_in.ensures.checked bytes known)
