use Rattle.gob_value.proofs.WholeSteps.{if_some, number_stands}
use Rattle.gob_value.proofs.number.number_at.Goals as goal

pub returns-clause-stands : goal.returns-clause-stands
returns-clause-stands c = if_some c.uint_at.result (λ found s. number_stands s) c.uint_at.ensures.found

pub returns-clause-onward : goal.returns-clause-onward
returns-clause-onward c = if_some c.uint_at.result (λ found s. s.order) c.uint_at.ensures.found
