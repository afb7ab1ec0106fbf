use Rattle.std.proofs.Common.{◌-◌, length, take, drop, arith, ap}
use Rattle.std.proofs.lemmas.Result.{err_from_is_err_and}
use Rattle.gob_num.proofs.PublicLaws.{bytes_each}
use Rattle.gob_stream.specs.declared.stage.Extent.{Extent}
use Rattle.gob_stream.proofs.Reader.NumberSteps.{slice_rest}
use Rattle.gob_go.specs.Machine.Stages.{no_memory_for_part}
use Rattle.gob_go.proofs.NumberStages.{taken_whole, taken_more, whole_some, whole_fits}
use Rattle.gob_go.proofs.InnerCountSteps.{inner_at_number, inner_bounded, inner_more, inner_stops, inner_types}
use Rattle.gob_go.proofs.InnerCountSteps.{inner_judged, inner_shallow, held_opens, held_in_value, held_goes, held_fails}
use Rattle.gob_go.proofs.InnerCountSteps.{held_few}
use Rattle.gob_go.proofs.inner_count.InnerCount.take.Goals as goal

pub take-requires-clause-taken : goal.take-requires-clause-taken
take-requires-clause-taken c = (inner_at_number c.requires.has_read).taken_is

pub take-requires-clause-room : goal.take-requires-clause-room
take-requires-clause-room c = (inner_at_number c.requires.has_read).room

pub take-requires-clause-prefix : goal.take-requires-clause-prefix
take-requires-clause-prefix c = (inner_at_number c.requires.has_read).prefix

pub returns-in_err-take : goal.returns-in_err-take
returns-in_err-take c =
    let p = err_from_is_err_and c.from_residual.result c.from_residual.ensures.1 in
    rw (p.1, p.2) (record {
      each = λ T offset z h o. inner_stops _ c.args.piece.now c.take.new.self c.in_err-take.field-0.0 h
          c.in_err-take.ensures.answers;
      some = λ l. tt;
    })

pub returns-in-More : goal.returns-in-More
returns-in-More c =
    let more = taken_more c.args.self.number c.take.new.self c.args.piece.now c.in_ok-take.field-0 c.in-More.is
    c.in_ok-take.ensures.answers in
    rw c.more.ensures (record {
      each = λ T offset z h o. inner_more c.args.piece.now h more c.in_ok-take.ensures.rest;
      some = λ l. l;
    })

pub behind-behind-requires : goal.behind-behind-requires
behind-behind-requires c =
    let w = taken_whole c.take.new.self c.in_ok-take.field-0 c.in-Whole.is c.in_ok-take.ensures.answers in
    let at = c.requires.has_read in
    let fits = whole_fits (inner_at_number at) w in let end = inner_bounded at in
    let most = c.stream-most.ensures.limits.stream in omega arith

pub within-requires : goal.within-requires
within-requires c =
    let w = taken_whole c.take.new.self c.in_ok-take.field-0 c.in-Whole.is c.in_ok-take.ensures.answers in
    let fits = whole_fits (inner_at_number c.requires.has_read) w in
    let ends = ap (λ (x : Extent). x.end) c.in_ok-take.ensures.rest in let behind = c.behind-behind.ensures.taken in
    omega arith

pub returns-in_err-within-in-Whole : goal.returns-in_err-within-in-Whole
returns-in_err-within-in-Whole c =
    let p = err_from_is_err_and c.from_residual-in_err-within-in-Whole.result
    c.from_residual-in_err-within-in-Whole.ensures.1 in
    let w = taken_whole c.take.new.self c.in_ok-take.field-0 c.in-Whole.is c.in_ok-take.ensures.answers in
    rw (p.1, p.2) (record {
      each = λ T offset z h o. inner_judged _ c.take.new.self c.args.piece.now c.in_err-within-in-Whole.field-0.0
          (inner_at_number c.requires.has_read) h w c.in_ok-take.ensures.rest c.behind-behind.ensures.taken
          c.in_err-within-in-Whole.ensures;
      some = λ l. tt;
    })

pub open-requires-clause-shallow : goal.open-requires-clause-shallow
open-requires-clause-shallow c = inner_shallow c.requires.has_read

pub returns-in_err-open-in-Whole : goal.returns-in_err-open-in-Whole
returns-in_err-open-in-Whole c =
    let p = err_from_is_err_and c.from_residual-in_err-open-in-Whole.result
    c.from_residual-in_err-open-in-Whole.ensures.1 in
    rw (p.1, p.2) (record {
      each = λ T offset z h o. no_memory_for_part (inner_types c.args.piece.now h);
      some = λ l. tt;
    })

pub take_value-requires : goal.take_value-requires
take_value-requires c =
    let w = taken_whole c.take.new.self c.in_ok-take.field-0 c.in-Whole.is c.in_ok-take.ensures.answers in
    rw (c.behind-behind.ensures.limits, c.behind-behind.ensures.keeps)
    (held_in_value (held_opens c.take.new.self (omega arith) c.requires.has_read w
    c.in_ok-take.ensures.rest c.behind-behind.ensures.taken c.in_ok-within-in-Whole.ensures
    c.in_ok-open-in-Whole.ensures) c.requires.has_read
    (bytes_each c.args.piece.now (λ i. omega (arith, c.type_inv.piece i))))

pub returns-in_err-taken-in-Whole : goal.returns-in_err-taken-in-Whole
returns-in_err-taken-in-Whole c =
    let p = err_from_is_err_and c.from_residual-in_err-taken-in-Whole.result
    c.from_residual-in_err-taken-in-Whole.ensures.1 in
    let w = taken_whole c.take.new.self c.in_ok-take.field-0 c.in-Whole.is c.in_ok-take.ensures.answers in
    let answers = rw (c.behind-behind.ensures.limits, c.behind-behind.ensures.keeps) at
    c.in_err-taken-in-Whole.ensures in
    rw (p.1, p.2) (record {
      each = λ T offset z h o. held_fails c.in_err-taken-in-Whole.field-0.0
          (take (length c.args.piece.now - c.in-Whole.used) (drop c.in-Whole.used c.args.piece.now))
          (slice_rest c.args.piece.now c.in-Whole.used)
          (held_opens c.take.new.self (omega arith) c.requires.has_read w c.in_ok-take.ensures.rest
          c.behind-behind.ensures.taken c.in_ok-within-in-Whole.ensures c.in_ok-open-in-Whole.ensures) answers h o;
      some = λ l. tt;
    })

pub behind-requires : goal.behind-requires
behind-requires c =
    let w = taken_whole c.take.new.self c.in_ok-take.field-0 c.in-Whole.is c.in_ok-take.ensures.answers in
    let answers = rw (c.behind-behind.ensures.limits, c.behind-behind.ensures.keeps) at
    c.in_ok-taken-in-Whole.ensures in
    let few = held_few c.in_ok-taken-in-Whole.taken
    (take (length c.args.piece.now - c.in-Whole.used) (drop c.in-Whole.used c.args.piece.now))
    (slice_rest c.args.piece.now c.in-Whole.used)
    (held_opens c.take.new.self (omega arith) c.requires.has_read w c.in_ok-take.ensures.rest
    c.behind-behind.ensures.taken c.in_ok-within-in-Whole.ensures c.in_ok-open-in-Whole.ensures) answers
    c.requires.has_read (bytes_each c.args.piece.now (λ i. omega (arith, c.type_inv.piece i))) in
    omega arith

pub returns-in_ok-taken-in-Whole : goal.returns-in_ok-taken-in-Whole
returns-in_ok-taken-in-Whole c =
    let w = taken_whole c.take.new.self c.in_ok-take.field-0 c.in-Whole.is c.in_ok-take.ensures.answers in
    let answers = rw (c.behind-behind.ensures.limits, c.behind-behind.ensures.keeps) at
    c.in_ok-taken-in-Whole.ensures in
    rw c.behind.ensures (record {
      each = λ T offset z h o. held_goes c.in_ok-taken-in-Whole.taken
          (take (length c.args.piece.now - c.in-Whole.used) (drop c.in-Whole.used c.args.piece.now))
          (slice_rest c.args.piece.now c.in-Whole.used)
          (held_opens c.take.new.self (omega arith) c.requires.has_read w c.in_ok-take.ensures.rest
          c.behind-behind.ensures.taken c.in_ok-within-in-Whole.ensures c.in_ok-open-in-Whole.ensures) answers h o;
      some = λ l. let some = whole_some (inner_at_number c.requires.has_read) w in omega arith;
    })
