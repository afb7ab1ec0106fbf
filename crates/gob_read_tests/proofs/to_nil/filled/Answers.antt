use Rattle.gob_types.specs.Defined.{types}
use Rattle.gob_read.proofs.Machine.NilsStay.{reader_begins}
use Rattle.gob_read_tests.proofs.to_nil.filled.Goals as goal

pub push_to_nil-requires-clause-clear : goal.push_to_nil-requires-clause-clear
push_to_nil-requires-clause-clear c = reader_begins _ _ _ _ _ _ c.in_ok-reader.ensures

pub fill-requires-clause-clear : goal.fill-requires-clause-clear
fill-requires-clause-clear c = c.announce.ensures.clear (types c.args.table.now) c.in_ok-used.ensures.clear

pub fill-requires-clause-at_nil : goal.fill-requires-clause-at_nil
fill-requires-clause-at_nil c = c.announce.ensures.at_nil (types c.args.table.now)
    (rw c.in-Nil.is at c.in_ok-used.ensures.at_nil)
