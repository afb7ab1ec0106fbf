use Rattle.std.proofs.Math.ListN.{drop_of_length-le}
use Rattle.gob_go_writer.proofs.PlaceLaws.{all_placed, next_placed}
use Rattle.gob_go_writer.proofs.tidy.places.places_of.Goals as goal

pub loop-filling-preserved : goal.loop-filling-preserved
loop-filling-preserved c = next_placed c.loop-filling.places.items c.args.fillings.now c.loop-filling.filling-index
    c.filling-item.result c.filling-item.is c.loop-filling-test.true c.loop-filling.invariant c.in_ok-push.ensures.items

pub returns : goal.returns
returns c = all_placed c.args.fillings.now c.loop-filling.filling-index
    (drop_of_length-le c.args.fillings.now c.loop-filling-test.false) c.loop-filling.invariant
