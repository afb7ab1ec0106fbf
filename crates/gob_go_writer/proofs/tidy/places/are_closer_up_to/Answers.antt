use Rattle.std.proofs.Common.{arith}
use Rattle.std.proofs.Math.ListN.{drop_of_length-le}
use Rattle.gob_go_writer.proofs.PlaceLaws.{all_closer, one_closer}
use Rattle.gob_go_writer.proofs.tidy.places.are_closer_up_to.Goals as goal

pub nils-preserved : goal.nils-preserved
nils-preserved c =
    let near = c.is_closer.ensures c.if-not-is_closer.false in
    record {
      same = c.nils.invariant.same;
      closer = λ h. c.nils.invariant.closer (one_closer c.args.nils.now c.args.places.now c.nils.i c.nils-test.true
          (let same = c.nils.invariant.same in omega arith) near.0 near.1 h);
    }

pub returns : goal.returns
returns c = λ is.
    let near = c.is_closer-2.ensures is in
    c.nils.invariant.closer (all_closer c.args.nils.now c.args.places.now c.nils.i
    (drop_of_length-le c.args.nils.now c.nils-test.false)
    (drop_of_length-le c.args.places.now (let same = c.nils.invariant.same in omega arith)) near.0 near.1)
