use Rattle.std.proofs.Common.{arith, ap}
use Rattle.std.proofs.lemmas.Result.{err_from_is_err_and}
use Rattle.gob_go.proofs.NumberStages.{taken_whole, taken_more, whole_some, whole_fits}
use Rattle.gob_go.proofs.NextCountSteps.{next_at_number, next_more, next_stops, next_whole, next_empty, next_judged}
use Rattle.gob_go.proofs.NextCountSteps.{next_order, next_bounded}
use Rattle.gob_go.proofs.next_count.NextCount.take.Goals as goal

pub take-requires-clause-taken : goal.take-requires-clause-taken
take-requires-clause-taken c = (next_at_number c.requires.is).taken_is

pub take-requires-clause-room : goal.take-requires-clause-room
take-requires-clause-room c = (next_at_number c.requires.is).room

pub take-requires-clause-prefix : goal.take-requires-clause-prefix
take-requires-clause-prefix c = (next_at_number c.requires.is).prefix

pub returns-in_err-take : goal.returns-in_err-take
returns-in_err-take c = λ d w.
    let p = err_from_is_err_and c.from_residual.result c.from_residual.ensures.1 in
    let most = c.stream-most.ensures.limits.stream in
    rw (p.1, p.2) (record {
      each = λ T offset z h o. next_stops c.args.piece.now c.take.new.self c.in_err-take.field-0.0 most h
          c.in_err-take.ensures.answers;
      some = λ l. tt;
    })

pub returns-in-More : goal.returns-in-More
returns-in-More c = λ d w.
    let more = taken_more c.args.self.number c.take.new.self c.args.piece.now c.in_ok-take.field-0 c.in-More.is
    c.in_ok-take.ensures.answers in
    rw c.more.ensures
    (record { each = λ T offset z h o. next_more c.args.piece.now h more c.in_ok-take.ensures.rest; some = λ l. l })

pub behind-behind-requires : goal.behind-behind-requires
behind-behind-requires c =
    let w = taken_whole c.take.new.self c.in_ok-take.field-0 c.in-Whole.is c.in_ok-take.ensures.answers in
    let at = c.requires.is in
    let fits = whole_fits (next_at_number at) w in let end = next_bounded at c.stream-most.ensures.limits.stream in
    omega arith

pub begin_segment-requires : goal.begin_segment-requires
begin_segment-requires c =
    let w = taken_whole c.take.new.self c.in_ok-take.field-0 c.in-Whole.is c.in_ok-take.ensures.answers in
    next_order c.args.piece.now c.requires.is w c.behind-behind.ensures.taken

pub returns-in_err-begin_segment-in-Whole : goal.returns-in_err-begin_segment-in-Whole
returns-in_err-begin_segment-in-Whole c = λ d w.
    let p = err_from_is_err_and c.from_residual-in_err-begin_segment-in-Whole.result
    c.from_residual-in_err-begin_segment-in-Whole.ensures.1 in
    let whole = taken_whole c.take.new.self c.in_ok-take.field-0 c.in-Whole.is c.in_ok-take.ensures.answers in
    rw (p.1, p.2) (record {
      each = λ T offset z h o. next_judged c.begin_segment.new.self c.take.new.self c.args.piece.now
          (ap (λ l. l.stream) c.behind-behind.ensures.limits)
          (next_at_number w) h whole c.in_ok-take.ensures.rest c.behind-behind.ensures.taken
          c.in_err-begin_segment-in-Whole.ensures;
      some = λ l. tt;
    })

pub returns-in_err-goes_on-in-Whole : goal.returns-in_err-goes_on-in-Whole
returns-in_err-goes_on-in-Whole c = λ d w.
    let p = err_from_is_err_and c.from_residual-in_err-goes_on-in-Whole.result
    c.from_residual-in_err-goes_on-in-Whole.ensures.1 in
    let whole = taken_whole c.take.new.self c.in_ok-take.field-0 c.in-Whole.is c.in_ok-take.ensures.answers in
    rw (p.1, p.2) (record {
      each = λ T offset z h o. next_empty c.take.new.self c.args.piece.now c.in_err-goes_on-in-Whole.field-0.0
          (ap (λ l. l.stream) c.behind-behind.ensures.limits) (next_at_number w) h whole c.in_ok-take.ensures.rest
          c.behind-behind.ensures.taken c.in_ok-begin_segment-in-Whole.ensures c.in_err-goes_on-in-Whole.ensures;
      some = λ l. tt;
    })

pub returns-in_ok-goes_on-in-Whole : goal.returns-in_ok-goes_on-in-Whole
returns-in_ok-goes_on-in-Whole c = λ d w.
    let whole = taken_whole c.take.new.self c.in_ok-take.field-0 c.in-Whole.is c.in_ok-take.ensures.answers in
    rw c.more-in-Whole.ensures (record {
      each = λ T offset z h o. next_whole c.take.new.self c.args.piece.now
          (ap (λ l. l.stream) c.behind-behind.ensures.limits) (next_at_number w) h whole c.in_ok-take.ensures.rest
          c.behind-behind.ensures.taken c.in_ok-begin_segment-in-Whole.ensures c.in_ok-goes_on-in-Whole.ensures
          c.new-number.ensures;
      some = λ l. whole_some (next_at_number w) whole;
    })
