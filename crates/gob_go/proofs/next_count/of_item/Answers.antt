use Rattle.std.proofs.Common.{arith}
use Rattle.gob_go.specs.Machine.Parts.{above_item, above_stream}
use Rattle.gob_go.proofs.next_count.of_item.Goals as goal
use Rattle.gob_go.proofs.next_count.of_item.Goals.{then-end-stream-via-then-end-stream}
use Rattle.gob_go.proofs.next_count.of_item.Goals.{then-end-stream-via-else-end-stream+then-count-stream}

pub returns-then-count-left : goal.returns-then-count-left
returns-then-count-left c = rw c.refusal.ensures (above_item c.if-count-left.true)

pub returns-then-end-stream : goal.returns-then-end-stream
returns-then-end-stream c =
    rw c.refusal-then-end-stream.ensures (above_stream c.if-count-left.false
    (elim c.then-end-stream.branch [
      | then-end-stream-via-then-end-stream w ↦ omega arith
      | then-end-stream-via-else-end-stream+then-count-stream w ↦ omega arith
    ]))
