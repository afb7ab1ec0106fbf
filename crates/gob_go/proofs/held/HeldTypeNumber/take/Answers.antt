use Rattle.std.proofs.Common.{◌-◌, length, take, drop, arith}
use Rattle.std.proofs.lemmas.Result.{err_from_is_err_and}
use Rattle.gob_stream.proofs.Reader.NumberSteps.{slice_rest}
use Rattle.gob_go.proofs.NumberStages.{taken_whole, taken_more, whole_some, whole_fits}
use Rattle.gob_go.proofs.HeldSteps.{held_at_number, held_bounded, held_more, held_stops, held_whole, held_further}
use Rattle.gob_go.proofs.HeldSteps.{held_stopped_behind, held_few}
use Rattle.gob_go.proofs.held.HeldTypeNumber.take.Goals as goal

pub take-requires-clause-taken : goal.take-requires-clause-taken
take-requires-clause-taken c = (held_at_number c.requires.has_read).taken_is

pub take-requires-clause-room : goal.take-requires-clause-room
take-requires-clause-room c = (held_at_number c.requires.has_read).room

pub take-requires-clause-prefix : goal.take-requires-clause-prefix
take-requires-clause-prefix c = (held_at_number c.requires.has_read).prefix

pub returns-in_err-take : goal.returns-in_err-take
returns-in_err-take c =
    let p = err_from_is_err_and c.from_residual.result c.from_residual.ensures.1 in
    rw (p.1, p.2) (record {
      each = λ T offset z h o. held_stops c.args.levels.now c.args.piece.now c.take.new.self
          c.in_err-take.field-0.0 h c.in_err-take.ensures.answers;
      some = λ l. tt;
    })

pub returns-in-More : goal.returns-in-More
returns-in-More c =
    let more = taken_more c.args.self.number c.take.new.self c.args.piece.now c.in_ok-take.field-0 c.in-More.is
    c.in_ok-take.ensures.answers in
    rw c.more.ensures (record {
      each = λ T offset z h o. held_more c.args.piece.now h more c.in_ok-take.ensures.rest;
      some = λ l. l;
    })

pub behind-behind-requires : goal.behind-behind-requires
behind-behind-requires c =
    let w = taken_whole c.take.new.self c.in_ok-take.field-0 c.in-Whole.is c.in_ok-take.ensures.answers in
    let at = c.requires.has_read in
    let fits = whole_fits (held_at_number at) w in let end = held_bounded at in
    let most = c.stream-most.ensures.limits.stream in omega arith

pub begin_held-requires : goal.begin_held-requires
begin_held-requires c =
    let w = taken_whole c.take.new.self c.in_ok-take.field-0 c.in-Whole.is c.in_ok-take.ensures.answers in
    rw (c.behind-behind.ensures.limits, c.behind-behind.ensures.keeps)
    (held_whole c.take.new.self c.args.piece.now c.requires.has_read w c.in_ok-take.ensures.rest
    c.behind-behind.ensures.taken)

pub slice_bounds-begin_held-count : goal.slice_bounds-begin_held-count
slice_bounds-begin_held-count c =
    (taken_whole c.take.new.self c.in_ok-take.field-0 c.in-Whole.is c.in_ok-take.ensures.answers).within

pub returns-in_err-taken-in-Whole : goal.returns-in_err-taken-in-Whole
returns-in_err-taken-in-Whole c =
    let p = err_from_is_err_and c.from_residual-in_err-taken-in-Whole.result
    c.from_residual-in_err-taken-in-Whole.ensures.1 in
    let w = taken_whole c.take.new.self c.in_ok-take.field-0 c.in-Whole.is c.in_ok-take.ensures.answers in
    let steps = rw (c.behind-behind.ensures.limits, c.behind-behind.ensures.keeps) at c.in_err-taken-in-Whole.ensures in
    rw (p.1, p.2) (record {
      each = λ T offset z h o. held_stopped_behind c.take.new.self c.args.piece.now
          (take (length c.args.piece.now - c.in-Whole.used) (drop c.in-Whole.used c.args.piece.now))
          c.in_err-taken-in-Whole.field-0.0 (slice_rest c.args.piece.now c.in-Whole.used) h w
          c.in_ok-take.ensures.rest (held_at_number c.requires.has_read) c.behind-behind.ensures.taken steps;
      some = λ l. tt;
    })

pub behind-requires : goal.behind-requires
behind-requires c =
    let w = taken_whole c.take.new.self c.in_ok-take.field-0 c.in-Whole.is c.in_ok-take.ensures.answers in
    let h = held_whole c.take.new.self c.args.piece.now c.requires.has_read w c.in_ok-take.ensures.rest
    c.behind-behind.ensures.taken in
    let steps = rw (c.behind-behind.ensures.limits, c.behind-behind.ensures.keeps) at c.in_ok-taken-in-Whole.ensures in
    let few = held_few c.args.piece.now c.in-Whole.used (slice_rest c.args.piece.now c.in-Whole.used) w.within h
    steps in
    omega arith

pub returns-in_ok-taken-in-Whole : goal.returns-in_ok-taken-in-Whole
returns-in_ok-taken-in-Whole c =
    let w = taken_whole c.take.new.self c.in_ok-take.field-0 c.in-Whole.is c.in_ok-take.ensures.answers in
    let steps = rw (c.behind-behind.ensures.limits, c.behind-behind.ensures.keeps) at c.in_ok-taken-in-Whole.ensures in
    rw c.behind.ensures (record {
      each = λ T offset z h o. held_further c.take.new.self c.args.piece.now
          (take (length c.args.piece.now - c.in-Whole.used) (drop c.in-Whole.used c.args.piece.now))
          (slice_rest c.args.piece.now c.in-Whole.used) h w c.in_ok-take.ensures.rest
          (held_at_number c.requires.has_read) c.behind-behind.ensures.taken steps;
      some = λ l. let n = whole_some (held_at_number c.requires.has_read) w in omega arith;
    })
