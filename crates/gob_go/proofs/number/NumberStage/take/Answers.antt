use Rattle.std.proofs.Common.{arith}
use Rattle.std.proofs.lemmas.Result.{err_from_is_err_and}
use Rattle.gob_go.specs.Machine.Parts.{bad_head, not_minimal}
use Rattle.gob_go.proofs.NumberSteps.{Front, more_of_number, whole_number, no_number, number_ends, two_fit}
use Rattle.gob_go.proofs.number.NumberStage.take.Goals as goal

pub behind-requires : goal.behind-requires
behind-requires c = omega (arith, c.room-room.ensures, c.requires.room)

pub returns-in_err-goes_on-in-More-clause-answers : goal.returns-in_err-goes_on-in-More-clause-answers
returns-in_err-goes_on-in-More-clause-answers c =
    let p = err_from_is_err_and c.from_residual.result c.from_residual.ensures.1 in
    let front : Front c.args.self.now c.args.around.now.taken c.room-room.result c.args.piece.now =
    record { at_is = c.requires.taken; order = omega (arith, c.requires.room); room_is = c.room-room.ensures } in
    rw (p.1, p.2) (number_ends (record { rest = c.args.self.now.rest; number = c.take.new.self })
    c.in_err-goes_on-in-More.field-0.0 front c.in-More.ensures.taken c.behind.ensures.taken
    c.in_err-goes_on-in-More.ensures)

pub returns-in_ok-goes_on-in-More-clause-answers : goal.returns-in_ok-goes_on-in-More-clause-answers
returns-in_ok-goes_on-in-More-clause-answers c =
    let on = c.in_ok-goes_on-in-More.ensures in let b = c.behind.ensures.taken in
    more_of_number (record { rest = c.args.self.now.rest; number = c.take.new.self })
    (record { at_is = c.requires.taken; order = omega (arith, c.requires.room); room_is = c.room-room.ensures })
    (omega arith) c.in-More.ensures.taken c.in-More.ensures.left

pub returns-in-Whole-clause-answers : goal.returns-in-Whole-clause-answers
returns-in-Whole-clause-answers c =
    whole_number
    (record { at_is = c.requires.taken; order = omega (arith, c.requires.room); room_is = c.room-room.ensures })
    c.in-Whole.ensures.taken.0 c.in-Whole.ensures.taken.1

pub refused-requires : goal.refused-requires
refused-requires c = omega (arith, c.requires.room, c.requires.taken)

pub refused-requires-in-NotMinimal : goal.refused-requires-in-NotMinimal
refused-requires-in-NotMinimal c =
    two_fit {piece = c.args.piece.now} (record {
      at_is = c.requires.taken;
      order = omega (arith, c.requires.room);
      room_is = c.room-room.ensures;
    })
    (omega arith) c.in-NotMinimal.ensures.taken

pub returns-in-BadHead-clause-answers : goal.returns-in-BadHead-clause-answers
returns-in-BadHead-clause-answers c =
    no_number (record { rest = c.args.self.now.rest; number = c.take.new.self }) _
    (record { at_is = c.requires.taken; order = omega (arith, c.requires.room); room_is = c.room-room.ensures })
    (bad_head c.in-BadHead.ensures.taken) c.refused.ensures

pub returns-in-NotMinimal-clause-answers : goal.returns-in-NotMinimal-clause-answers
returns-in-NotMinimal-clause-answers c =
    no_number (record { rest = c.args.self.now.rest; number = c.take.new.self }) _
    (record { at_is = c.requires.taken; order = omega (arith, c.requires.room); room_is = c.room-room.ensures })
    (not_minimal c.in-NotMinimal.ensures.taken) c.refused-in-NotMinimal.ensures
