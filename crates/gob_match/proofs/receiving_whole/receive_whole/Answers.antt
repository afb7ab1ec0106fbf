use Rattle.std.proofs.Common.{arith, eqb-true}
use Rattle.gob_match.proofs.WholeReceived.{whole_received}
use Rattle.gob_match.proofs.receiving_whole.receive_whole.Goals as goal

pub returns-in-Some : goal.returns-in-Some
returns-in-Some g c = λ ends.
    whole_received {most = c.min.result} c.args.body.now c.in-Some.end (omega arith) (eqb-true _ _ ends)
    c.clear.ensures.items c.in-Some.ensures
