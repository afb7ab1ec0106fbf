use Rattle.gob_read.proofs.Events.EventLaws.{value_formed, prefix_formed}
use Rattle.gob_read.proofs.laws.events_are_well_formed.Goals as goal

pub returns-clause-whole : goal.returns-clause-whole
returns-clause-whole c T t v b us s u = value_formed s u

pub returns-clause-prefixes : goal.returns-clause-prefixes
returns-clause-prefixes c us ws f = prefix_formed us ws f
