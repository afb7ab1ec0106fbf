use Rattle.gob_read.proofs.Machine.Grown.{stands_on, usable_on}
use Rattle.gob_read.proofs.laws.readers_stay.Goals as goal

pub returns-clause-read : goal.returns-clause-read
returns-clause-read g c = λ T U t limit announced z e h. stands_on t limit announced g.B.Builder.building.received z
    c.args.reader.now.run e h

pub returns-clause-usable : goal.returns-clause-usable
returns-clause-usable g c = λ T U e h. usable_on g.B.Builder.building.received c.args.reader.now.run e h
