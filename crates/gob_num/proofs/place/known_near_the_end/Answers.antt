use Rattle.gob_num.proofs.PlaceLaws.{only_number}
use Rattle.gob_num.proofs.place.known_near_the_end.Goals as goal

pub returns-in-Some-clause-known : goal.returns-in-Some-clause-known
returns-in-Some-clause-known c = only_number c.in-Some.ensures.found
