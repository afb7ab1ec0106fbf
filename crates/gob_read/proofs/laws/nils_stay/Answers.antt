use Rattle.gob_read.proofs.Machine.NilsStay.{reader_begins, reader_stays_clear, reader_stays_at_nil}
use Rattle.gob_read.proofs.laws.nils_stay.Goals as goal

pub returns-clause-begins : goal.returns-clause-begins
returns-clause-begins g c = λ T t limit announced h. reader_begins T t limit announced g.B.Builder.building.received
    c.args.reader.now.run h

pub returns-clause-clear : goal.returns-clause-clear
returns-clause-clear g c = λ T U e h n. reader_stays_clear g.B.Builder.building.received c.args.reader.now.run e h n

pub returns-clause-before : goal.returns-clause-before
returns-clause-before g c = λ T U e n. reader_stays_at_nil c.args.reader.now.run e n
