use Rattle.gob_types.specs.Defined.{types}
use Rattle.gob_read.proofs.PublicLaws.{usable_pushed}
use Rattle.gob_read_tests.proofs.held.held_after_each.Goals as goal

pub bytes-preserved : goal.bytes-preserved
bytes-preserved g c =
    let e = c.push-progress.ensures in
    usable_pushed (types c.args.table.now) g.B.Builder.building.received g.B.Builder.building.means c.bytes.reader.run
    c.push-progress.new.self.run _ c.push-progress.result e.given e.failed e.ended c.bytes.invariant
