use Rattle.gob_write.proofs.PlaceLaws.{one_blank, place_at}
use Rattle.gob_write.proofs.writer.value_place.Goals as goal

pub blanks-preserved : goal.blanks-preserved
blanks-preserved c =
    one_blank c.args.start c.blanks.place c.next-place.result c.args.text.now c.blanks.byte-index c.blanks-test.true
    c.next-place.ensures c.blanks.invariant

pub returns-then-not-matches : goal.returns-then-not-matches
returns-then-not-matches c = place_at c.blanks.byte-index c.blanks.invariant

pub returns : goal.returns
returns c = place_at c.blanks.byte-index c.blanks.invariant
