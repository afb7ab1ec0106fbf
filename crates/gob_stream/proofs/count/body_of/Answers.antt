use Rattle.std.proofs.Common.{arith}
use Rattle.gob_stream.proofs.Reader.CountSteps.{judged_item, judged_stream, judged_empty}
use Rattle.gob_stream.proofs.count.body_of.Goals as goal
use Rattle.gob_stream.proofs.count.body_of.Goals.{then-end-stream-via-then-end-stream}
use Rattle.gob_stream.proofs.count.body_of.Goals.{then-end-stream-via-else-end-stream+then-count-stream}

pub returns-then-count-item : goal.returns-then-count-item
returns-then-count-item c = judged_item c.refusal.ensures (omega arith)

pub returns-then-end-stream : goal.returns-then-end-stream
returns-then-end-stream c = judged_stream c.refusal-then-end-stream.ensures (omega arith)
    (elim c.then-end-stream.branch [
      | then-end-stream-via-then-end-stream w ↦ omega arith
      | then-end-stream-via-else-end-stream+then-count-stream w ↦ omega arith
    ])

pub returns-then-count-eq0 : goal.returns-then-count-eq0
returns-then-count-eq0 c = judged_empty c.refusal-then-count-eq0.ensures (omega arith) (omega arith)
