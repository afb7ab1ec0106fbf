use Rattle.std.proofs.Common.{arith}
use Rattle.gob_num.proofs.PublicLaws.{unsigned_length}
use Rattle.gob_stream.proofs.Reader.CountSteps.{cut_length}
use Rattle.gob_stream.proofs.Reader.CountSteps.{count_at_end, count_whole, count_more, count_bad, count_padded}
use Rattle.gob_stream.proofs.count.CountStage.take.Goals as goal

pub returns-in-More : goal.returns-in-More
returns-in-More g c = count_more c.args.self.number c.args.piece.now c.in-More.ensures.taken c.in-More.ensures.left

pub returns-in-Ok : goal.returns-in-Ok
returns-in-Ok g c = count_whole c.args.self.number c.args.piece.now c.in-Whole.ensures.taken.0 c.requires.taken
    c.in-Whole.ensures.taken.1 c.in-Whole.ensures.left c.in-Ok.ensures

pub returns-in-Err : goal.returns-in-Err
returns-in-Err g c = count_at_end c.args.self.number c.args.piece.now c.in-Whole.ensures.taken.0 c.requires.taken
    c.in-Whole.ensures.taken.1 c.in-Err.ensures

pub returns-in-BadHead : goal.returns-in-BadHead
returns-in-BadHead g c = count_bad c.in-BadHead.ensures.taken c.refusal.ensures

pub returns-in-NotMinimal : goal.returns-in-NotMinimal
returns-in-NotMinimal g c = count_padded c.in-NotMinimal.ensures.taken c.refusal-in-NotMinimal.ensures

pub overflow_add-around : goal.overflow_add-around
overflow_add-around g c =
    let taken = c.in-Whole.ensures.taken in
    let used = cut_length c.args.self.number c.args.piece.now c.in-Whole.used taken.0 in
    omega (arith, c.requires.offset, c.requires.taken, used, unsigned_length taken.1)
