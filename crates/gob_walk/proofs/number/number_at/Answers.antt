-- No spelling begins another, and where none is found none stands.
use Rattle.gob_value.proofs.WholeSteps.{if_some}
use Rattle.gob_walk.proofs.StandingLaws.{number_known, number_found, no_number_begins}
use Rattle.gob_walk.proofs.number.number_at.Goals as goal

pub returns-then-this-ne0-clause-found : goal.returns-then-this-ne0-clause-found
returns-then-this-ne0-clause-found g c = number_known c.requires c.known_uint_at.ensures.known

pub returns-clause-found : goal.returns-clause-found
returns-clause-found g c = if_some c.number_at.result (λ found s. number_found s) c.number_at.ensures.stands

pub returns-clause-none : goal.returns-clause-none
returns-clause-none g c = λ e. no_number_begins c.requires (c.number_at.ensures.none e)
