use Rattle.std.proofs.Common.{arith}
use Rattle.std.proofs.lemmas.List.{length-take}
use Rattle.gob_read.specs.Calls.Builders.{skip_building}
use Rattle.gob_go.proofs.ReaderLaws.{stops_in_level}
use Rattle.gob_go.proofs.CameLaws.{came_fits, came_within}
use Rattle.gob_go.proofs.level.Level.take.Goals as goal

pub fault_of_stop-requires : goal.fault_of_stop-requires
fault_of_stop-requires c = stops_in_level _ skip_building.received c.args.self.now.reader.run c.args.piece.now
    c.in-Err.stop c.requires.fits c.requires.order c.requires.end c.begin-begin.ensures.range
    c.begin-begin.ensures.begin c.requires.room c.in-Err.ensures.refused
    (λ e. let f = c.in-Err.ensures.failed e in cc)

pub slice_bounds-bytes-end : goal.slice_bounds-bytes-end
slice_bounds-bytes-end c = came_within _ skip_building.received skip_building.means
    c.args.self.now.reader.run c.push_to_nil.new.self.run c.args.piece.now c.in-Ok.reached c.requires.fits
    (λ e. let f = c.in-Ok.ensures.failed e in cc) c.in-Ok.ensures.given c.of-came.ensures c.used.ensures

pub extend-requires : goal.extend-requires
extend-requires c =
    let fits = came_fits _ skip_building.received skip_building.means
    c.args.self.now.reader.run c.push_to_nil.new.self.run c.args.piece.now c.in-Ok.reached c.requires.fits
    (λ e. let f = c.in-Ok.ensures.failed e in cc) c.requires.order c.begin-begin.ensures.range c.requires.read
    c.requires.room c.in-Ok.ensures.given c.of-came.ensures c.used.ensures in
    omega (arith, length-take c.used.result c.args.piece.now)
