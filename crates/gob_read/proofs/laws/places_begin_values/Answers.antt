use Rattle.gob_read.proofs.Grammar.Honest.{begins_none, begins_deep, place_begins, first_honest}
use Rattle.gob_read.proofs.laws.places_begin_values.Goals as goal

pub returns-clause-place : goal.returns-clause-place
returns-clause-place c T t limit announced z R l i k n = place_begins l i k n

pub returns-clause-number : goal.returns-clause-number
returns-clause-number c T t limit announced z R k i = begins_none k i

pub returns-clause-deep : goal.returns-clause-deep
returns-clause-deep c T t limit announced z R k i = begins_deep k i

pub returns-clause-honest : goal.returns-clause-honest
returns-clause-honest c T t limit announced z R l i f = first_honest l i f
