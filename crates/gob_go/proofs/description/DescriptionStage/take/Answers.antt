use Rattle.std.proofs.Common.{arith}
use Rattle.gob_types.specs.Base.{wire_type}
use Rattle.gob_stream.specs.Machine.HasRead.{size}
use Rattle.gob_stream.proofs.Reader.BodySteps.{stops_within}
use Rattle.gob_stream.proofs.Reader.DescriptionSteps.{wire_fits, made_of}
use Rattle.gob_go.specs.Machine.Parts.{description_ends}
use Rattle.gob_go.proofs.DescriptionSteps.{description_more, description_wrong, description_stopped}
use Rattle.gob_go.proofs.description.DescriptionStage.take.Goals as goal

pub define-requires-clause-fits : goal.define-requires-clause-fits
define-requires-clause-fits c =
    let u = c.requires.has_read in
    wire_fits c.requires.keeps (made_of {rest = c.args.self.rest} c.push.new.self u.bytes c.args.piece.now
    c.in-Ok-Done.field-0-is (c.in-Ok-Done.ensures.given wire_type u.limit (size c.args.self.rest) u.bytes
    u.after)).made

pub fault_of_stop-requires : goal.fault_of_stop-requires
fault_of_stop-requires c = stops_within c.args.self.reader c.args.piece.now c.in-Err.stop c.requires.has_read
    c.requires.has_read.order (omega arith) c.in-Err.ensures.refused

pub returns-in-Ok-More : goal.returns-in-Ok-More
returns-in-Ok-More c = λ limit z s. description_more c.push.new.self z c.args.piece.now c.in-Ok-More.field-0-is
    (c.in-Ok-More.ensures.given wire_type limit (size c.args.self.rest) z s)

pub returns-in-Ok : goal.returns-in-Ok
returns-in-Ok c = λ limit z s.
    description_ends (made_of c.push.new.self z c.args.piece.now c.in-Ok-Done.field-0-is
    (c.in-Ok-Done.ensures.given wire_type limit (size c.args.self.rest) z s)) c.in-Ok.ensures

pub returns-in-Ok-Done : goal.returns-in-Ok-Done
returns-in-Ok-Done c = λ limit z s.
    rw c.of.ensures
    (description_wrong c.in-Err-define.denial (made_of c.push.new.self z c.args.piece.now c.in-Ok-Done.field-0-is
    (c.in-Ok-Done.ensures.given wire_type limit (size c.args.self.rest) z s)) c.in-Err-define.ensures)

pub returns : goal.returns
returns c = λ limit z s. description_stopped c.args.self.reader z c.args.piece.now c.in-Err.stop
    c.fault_of_stop.ensures c.in-Err.ensures.refused s
