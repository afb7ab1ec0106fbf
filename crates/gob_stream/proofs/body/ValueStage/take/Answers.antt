use Rattle.std.proofs.Common.{arith}
use Rattle.gob_stream.proofs.Reader.BodySteps.{stops_within, value_stopped, value_more, value_done}
use Rattle.gob_stream.specs.Machine.HasRead.{size}
use Rattle.gob_stream.proofs.body.ValueStage.take.Goals as goal

pub fault_of_stop-requires : goal.fault_of_stop-requires
fault_of_stop-requires g c = stops_within c.args.self.reader c.args.piece.now c.in-Err.stop c.requires c.requires.order
    (omega arith) c.in-Err.ensures.refused

pub returns-in-Ok-More : goal.returns-in-Ok-More
returns-in-Ok-More g c = λ limit z s. value_more c.push.new.self z c.args.piece.now c.in-Ok-More.field-0-is
    (c.in-Ok-More.ensures.given c.args.self.id limit (size c.args.self.rest) z s)

pub returns-in-Ok-Done : goal.returns-in-Ok-Done
returns-in-Ok-Done g c = λ limit z s. value_done c.push.new.self z c.args.piece.now c.in-Ok-Done.field-0-is
    (c.in-Ok-Done.ensures.given c.args.self.id limit (size c.args.self.rest) z s) c.next_count.ensures

pub returns-in-Err : goal.returns-in-Err
returns-in-Err g c = λ limit z s. value_stopped c.args.self.reader z c.args.piece.now c.in-Err.stop
    c.fault_of_stop.ensures c.in-Err.ensures.refused s
