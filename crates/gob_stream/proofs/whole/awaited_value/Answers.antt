use Rattle.std.proofs.Common.{arith}
use Rattle.gob_stream.proofs.Reader.WholeSteps.{has_begun}
use Rattle.gob_stream.proofs.whole.awaited_value.Goals as goal

pub returns : goal.returns
returns c =
    has_begun _ _ _ _ _ _ _ _ c.in_ok-announced.ensures.count (omega arith) c.in_ok-named.ensures.names
    c.in_ok-named.ensures.may
