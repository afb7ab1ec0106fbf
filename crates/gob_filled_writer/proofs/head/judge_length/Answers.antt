use Rattle.std.proofs.Common.{arith}
use Rattle.gob_filled_writer.specs.Heads.{long_item, long_stream}
use Rattle.gob_filled_writer.proofs.head.judge_length.Goals as goal

pub returns-then-size-item-clause-err : goal.returns-then-size-item-clause-err
returns-then-size-item-clause-err c = long_item (omega arith)

pub returns-then-count-room-clause-err : goal.returns-then-count-room-clause-err
returns-then-count-room-clause-err c = long_stream (omega arith) (omega arith)
