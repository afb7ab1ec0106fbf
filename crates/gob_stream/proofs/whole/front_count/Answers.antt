use Rattle.std.proofs.Common.{arith}
use Rattle.gob_stream.proofs.Reader.WholeSteps.{has_count}
use Rattle.gob_stream.proofs.whole.front_count.Goals as goal

pub returns-clause-count : goal.returns-clause-count
returns-clause-count c =
    let room = c.saturating_sub-room.ensures in
    let most = c.stream.ensures.stream in
    has_count _ _ _ _ c.saturating_sub-room.result _ c.in_ok-count.ensures.found (omega arith) (omega arith)
    (omega arith)
