use Rattle.gob_write.specs.Place.{place_from}
use Rattle.gob_write.proofs.PlaceLaws.{all_placed, one_place}
use Rattle.gob_write.proofs.place.Place.behind.Goals as goal

pub bytes-preserved : goal.bytes-preserved
bytes-preserved c =
    one_place (place_from c.args.self c.args.bytes.now) c.bytes.place c.next-place.result c.args.bytes.now
    c.bytes.byte-index c.bytes-test.true c.next-place.ensures c.bytes.invariant

pub returns : goal.returns
returns c =
    all_placed (place_from c.args.self c.args.bytes.now) c.bytes.place c.args.bytes.now c.bytes.byte-index
    c.bytes-test.false c.bytes.invariant
