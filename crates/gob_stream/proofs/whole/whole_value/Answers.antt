use Rattle.std.proofs.Common.{arith}
use Rattle.gob_stream.proofs.Reader.WholeSteps.{has_body}
use Rattle.gob_stream.proofs.whole.whole_value.Goals as goal

pub returns : goal.returns
returns c =
    has_body _ _ _ _ _ _ _ _ c.in_ok-announced.ensures.count (omega arith) c.in_ok-named.ensures.names (omega arith)
    c.in_ok-named.ensures.may
