use Rattle.std.proofs.Common.{◌++◌, ◌≤◌, take, length, arith, refl}
use Rattle.std.proofs.lemmas.List.{length-take}
use Rattle.gob_stream.specs.Refusing as refusing
use Rattle.gob_stream.proofs.Reader.NumberSteps.{number_refused, number_goes_on, goes_on_some, number_taken}
use Rattle.gob_stream.proofs.Reader.NumberSteps.{steps_further, steps_stop, steps_few, number_there, rest_of}
use Rattle.gob_stream.proofs.Reader.NumberSteps.{slice_rest, one_used}
use Rattle.gob_stream.proofs.Reader.FailedSteps.{body_room, room_fits, used_fits, bad_head_stands, not_minimal_stands}
use Rattle.gob_stream.proofs.type_number.TypeNumberStage.take.Goals as goal

pub overflow_add-result : goal.overflow_add-result
overflow_add-result g c =
    let at = c.args.self in
    let h = c.requires.counted in
    let fits = room_fits c.args.piece.now c.requires.room c.min-room.ensures in
    let r = rest_of {body = at.body} at.number c.args.piece.now c.requires.begin fits.within fits.some
    c.in-Whole.ensures.taken.0 in
    let few = steps_few (c.in-Ok.ensures h.offset h.size h.bytes (at.number
    ++ take c.in-Whole.used (take c.min-room.result c.args.piece.now)) at.body h.is refl c.in-Whole.ensures.taken.1
    r) in
    omega arith

pub returns-in-More : goal.returns-in-More
returns-in-More g c = λ offset m d k.
    let e = k.end in
    one_used (number_goes_on d c.args.self.number c.args.piece.now k (omega arith) (omega arith) (omega arith)
    c.in-More.ensures.taken c.in-More.ensures.left c.prefix_of_type_number.ensures)
    (goes_on_some c.prefix_of_type_number.ensures (omega arith))

pub returns-in-Ok : goal.returns-in-Ok
returns-in-Ok g c = λ offset m d k.
    let at = c.args.self in
    let e = k.end in
    let fits = room_fits c.args.piece.now c.requires.room c.min-room.ensures in
    let r = rest_of {body = at.body} at.number c.args.piece.now c.requires.begin fits.within fits.some
    c.in-Whole.ensures.taken.0 in
    let p = c.in-Ok.ensures offset m d (at.number ++ take c.in-Whole.used (take c.min-room.result c.args.piece.now))
    at.body k refl c.in-Whole.ensures.taken.1 r in
    let few : c.in-Whole.used ≤ length c.args.piece.now = let l = c.in-Whole.ensures.taken.0 in let n =
    length-take c.min-room.result c.args.piece.now in omega arith in
    let n = number_taken _ _ c.requires.prefix c.in-Whole.ensures.taken.1 in
    one_used
    (steps_further (d ++ at.number) c.args.piece.now c.in-Whole.used few
    (rw (
      number_there d at.number c.args.piece.now c.in-Whole.used c.min-room.result c.in-Whole.ensures.taken.0,
      slice_rest c.args.piece.now c.in-Whole.used,
    ) at p))
    (omega arith)

pub returns-in-Err : goal.returns-in-Err
returns-in-Err g c = λ offset m d k.
    let at = c.args.self in
    let e = k.end in
    let fits = room_fits c.args.piece.now c.requires.room c.min-room.ensures in
    let r = rest_of {body = at.body} at.number c.args.piece.now c.requires.begin fits.within fits.some
    c.in-Whole.ensures.taken.0 in
    let p = c.in-Err.ensures offset m d (at.number ++ take c.in-Whole.used (take c.min-room.result c.args.piece.now))
    at.body k refl c.in-Whole.ensures.taken.1 r in
    one_used
    (steps_stop (d ++ at.number) c.args.piece.now c.in-Whole.used
    (rw (
      number_there d at.number c.args.piece.now c.in-Whole.used c.min-room.result c.in-Whole.ensures.taken.0,
      slice_rest c.args.piece.now c.in-Whole.used,
    ) at p))
    tt

pub returns-in-BadHead : goal.returns-in-BadHead
returns-in-BadHead g c = λ offset m d k.
    let room = body_room c.args.self.body.begin c.args.self.number c.args.piece.now c.requires.begin c.requires.room
    k.end c.min-room.ensures in
    one_used (number_refused d c.args.self.number c.args.piece.now k room.within room.taken
    (refusing.RefusesBody.bad_head c.in-BadHead.ensures.taken) bad_head_stands c.refusal.ensures) tt

pub returns-in-NotMinimal : goal.returns-in-NotMinimal
returns-in-NotMinimal g c = λ offset m d k.
    let room = body_room c.args.self.body.begin c.args.self.number c.args.piece.now c.requires.begin c.requires.room
    k.end c.min-room.ensures in
    one_used (number_refused d c.args.self.number c.args.piece.now k room.within room.taken
    (refusing.RefusesBody.not_minimal c.in-NotMinimal.ensures.taken) not_minimal_stands
    c.refusal-in-NotMinimal.ensures) tt

pub prefix_of_body-requires-clause-order : goal.prefix_of_body-requires-clause-order
prefix_of_body-requires-clause-order g c =
    (used_fits c.args.piece.now (room_fits c.args.piece.now c.requires.room c.min-room.ensures)
    c.in-Whole.ensures.taken.0).within

pub slice_bounds-prefix_of_body-count : goal.slice_bounds-prefix_of_body-count
slice_bounds-prefix_of_body-count g c =
    (used_fits c.args.piece.now (room_fits c.args.piece.now c.requires.room c.min-room.ensures)
    c.in-Whole.ensures.taken.0).some
