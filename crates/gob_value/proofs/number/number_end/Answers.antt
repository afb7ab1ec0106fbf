use Rattle.gob_value.proofs.WholeSteps.{if_some, number_stands}
use Rattle.gob_value.proofs.number.number_end.Goals as goal

pub returns-clause-stands : goal.returns-clause-stands
returns-clause-stands c = if_some c.uint_end.result (λ end s. (s.0, number_stands s.1)) c.uint_end.ensures.found
