use Rattle.std.proofs.Common.{◌-◌, length, take, drop, arith}
use Rattle.std.proofs.lemmas.Result.{err_from_is_err_and}
use Rattle.gob_num.proofs.PublicLaws.{bytes_each}
use Rattle.gob_types.specs.Defined.{types}
use Rattle.gob_go.specs.declared.level.Came.TheVariants as came
use Rattle.gob_stream.proofs.Reader.NumberSteps.{slice_rest}
use Rattle.gob_go.proofs.ValueSteps.{value_fits, value_clear, value_order, value_end, value_read, value_room}
use Rattle.gob_go.proofs.ValueSteps.{has_come, came_within, nil_bound, past_bound, past_some, some_behind, value_more}
use Rattle.gob_go.proofs.ValueSteps.{nil_comes, value_behind, nil_further, nil_stops, nil_few, past_further, past_stops}
use Rattle.gob_go.proofs.ValueSteps.{value_place, value_stops}
use Rattle.gob_go.proofs.levels.Levels.take_value.Goals as goal

pub take-requires-clause-fits : goal.take-requires-clause-fits
take-requires-clause-fits c = value_fits c.requires.has_read

pub take-requires-clause-clear : goal.take-requires-clause-clear
take-requires-clause-clear c = value_clear c.requires.has_read

pub take-requires-clause-order : goal.take-requires-clause-order
take-requires-clause-order c = value_order c.requires.has_read c.requires.taken_is

pub take-requires-clause-end : goal.take-requires-clause-end
take-requires-clause-end c = value_end c.requires.has_read c.requires.taken_is

pub take-requires-clause-read : goal.take-requires-clause-read
take-requires-clause-read c = value_read c.requires.has_read

pub take-requires-clause-room : goal.take-requires-clause-room
take-requires-clause-room c = value_room c.requires.has_read c.requires.taken_is

pub returns-in_err-take : goal.returns-in_err-take
returns-in_err-take c =
    let p = err_from_is_err_and c.from_residual.result c.from_residual.ensures.1 in
    rw (p.1, p.2) (record {
      each = λ T offset z h o. value_stops c.args.self.now _ c.in_err-take.field-0.0 h c.in_err-take.ensures
          (value_place c.requires h);
      some = λ l. tt;
    })

pub returns-in-ToEnd : goal.returns-in-ToEnd
returns-in-ToEnd c =
    let r = has_come (types c.args.table.now) c.args.around.now.taken c.args.self.now c.take.new.self
    c.args.piece.now came.ToEnd c.in-ToEnd.is c.in_ok-take.ensures in
    rw c.more.ensures (record { each = λ T offset z h o. value_more h r; some = λ l. l })

pub behind-behind-requires : goal.behind-behind-requires
behind-behind-requires c =
    let r = has_come (types c.args.table.now) c.args.around.now.taken c.args.self.now c.take.new.self
    c.args.piece.now (came.ToNil c.in-ToNil.used) c.in-ToNil.is c.in_ok-take.ensures in
    let fits = nil_bound c.requires r in let most = c.stream-most.ensures.limits.stream in omega arith

pub slice_bounds-take-count : goal.slice_bounds-take-count
slice_bounds-take-count c =
    came_within (came.ToNil c.in-ToNil.used) c.requires.has_read (has_come (types c.args.table.now)
    c.args.around.now.taken c.args.self.now c.take.new.self c.args.piece.now (came.ToNil c.in-ToNil.used) c.in-ToNil.is
    c.in_ok-take.ensures)

pub take-requires-in-ToNil : goal.take-requires-in-ToNil
take-requires-in-ToNil c =
    let r = has_come (types c.args.table.now) c.args.around.now.taken c.args.self.now c.take.new.self
    c.args.piece.now (came.ToNil c.in-ToNil.used) c.in-ToNil.is c.in_ok-take.ensures in
    rw (c.behind-behind.ensures.limits, c.behind-behind.ensures.keeps) (record {
      has_read = nil_comes c.requires r (bytes_each c.args.piece.now (λ i. omega (arith, c.type_inv.piece i)))
          c.behind-behind.ensures.taken c.new-length.ensures;
    })

pub returns-in_err-taken-in-ToNil : goal.returns-in_err-taken-in-ToNil
returns-in_err-taken-in-ToNil c =
    let p = err_from_is_err_and c.from_residual-in_err-taken-in-ToNil.result
    c.from_residual-in_err-taken-in-ToNil.ensures.1 in
    let r = has_come (types c.args.table.now) c.args.around.now.taken c.args.self.now c.take.new.self
    c.args.piece.now (came.ToNil c.in-ToNil.used) c.in-ToNil.is c.in_ok-take.ensures in
    let answers = rw (c.behind-behind.ensures.limits, c.behind-behind.ensures.keeps) at
    c.in_err-taken-in-ToNil.ensures in
    rw (p.1, p.2) (record {
      each = λ T offset z h o. nil_stops c.in_err-taken-in-ToNil.field-0.0
          (take (length c.args.piece.now - c.in-ToNil.used) (drop c.in-ToNil.used c.args.piece.now))
          (slice_rest c.args.piece.now c.in-ToNil.used) c.requires r c.behind-behind.ensures.taken c.new-length.ensures
          answers h o;
      some = λ l. tt;
    })

pub behind-requires : goal.behind-requires
behind-requires c =
    let r = has_come (types c.args.table.now) c.args.around.now.taken c.args.self.now c.take.new.self
    c.args.piece.now (came.ToNil c.in-ToNil.used) c.in-ToNil.is c.in_ok-take.ensures in
    let answers = rw (c.behind-behind.ensures.limits, c.behind-behind.ensures.keeps) at
    c.in_ok-taken-in-ToNil.ensures in
    let few = nil_few c.in_ok-taken-in-ToNil.taken
    (take (length c.args.piece.now - c.in-ToNil.used) (drop c.in-ToNil.used c.args.piece.now))
    (slice_rest c.args.piece.now c.in-ToNil.used) c.requires r c.behind-behind.ensures.taken c.new-length.ensures
    answers (bytes_each c.args.piece.now (λ i. omega (arith, c.type_inv.piece i))) in
    omega arith

pub returns-in_ok-taken-in-ToNil : goal.returns-in_ok-taken-in-ToNil
returns-in_ok-taken-in-ToNil c =
    let r = has_come (types c.args.table.now) c.args.around.now.taken c.args.self.now c.take.new.self
    c.args.piece.now (came.ToNil c.in-ToNil.used) c.in-ToNil.is c.in_ok-take.ensures in
    let answers = rw (c.behind-behind.ensures.limits, c.behind-behind.ensures.keeps) at
    c.in_ok-taken-in-ToNil.ensures in
    let rest = slice_rest c.args.piece.now c.in-ToNil.used in
    rw c.behind.ensures (record {
      each = λ T offset z h o. nil_further c.in_ok-taken-in-ToNil.taken
          (take (length c.args.piece.now - c.in-ToNil.used) (drop c.in-ToNil.used c.args.piece.now)) rest c.requires r
          c.behind-behind.ensures.taken c.new-length.ensures answers h o;
      some = some_behind c.in-ToNil.used c.in_ok-taken-in-ToNil.taken.used c.args.piece.now
          (take (length c.args.piece.now - c.in-ToNil.used) (drop c.in-ToNil.used c.args.piece.now)) rest answers.some;
    })

pub behind-requires-in-PastValue : goal.behind-requires-in-PastValue
behind-requires-in-PastValue c =
    let r = has_come (types c.args.table.now) c.args.around.now.taken c.args.self.now c.take.new.self
    c.args.piece.now (came.PastValue c.in-PastValue.used) c.in-PastValue.is c.in_ok-take.ensures in
    let fits = past_bound c.requires r in let most = c.stream-most.ensures.limits.stream in omega arith

pub end_values-requires : goal.end_values-requires
end_values-requires c =
    let r = has_come (types c.args.table.now) c.args.around.now.taken c.args.self.now c.take.new.self
    c.args.piece.now (came.PastValue c.in-PastValue.used) c.in-PastValue.is c.in_ok-take.ensures in
    rw (c.behind-in-PastValue.ensures.limits, c.behind-in-PastValue.ensures.keeps)
    (value_behind c.requires r c.behind-in-PastValue.ensures.taken)

pub returns-in_err-goes-in-PastValue : goal.returns-in_err-goes-in-PastValue
returns-in_err-goes-in-PastValue c =
    let p = err_from_is_err_and c.from_residual-in_err-goes-in-PastValue.result
    c.from_residual-in_err-goes-in-PastValue.ensures.1 in
    let r = has_come (types c.args.table.now) c.args.around.now.taken c.args.self.now c.take.new.self
    c.args.piece.now (came.PastValue c.in-PastValue.used) c.in-PastValue.is c.in_ok-take.ensures in
    let answers = rw (c.behind-in-PastValue.ensures.limits, c.behind-in-PastValue.ensures.keeps) at
    c.in_err-goes-in-PastValue.ensures in
    rw (p.1, p.2) (record {
      each = λ T offset z h o. past_stops c.in_err-goes-in-PastValue.field-0.0 c.requires r
          c.behind-in-PastValue.ensures.taken answers h o;
      some = λ l. tt;
    })

pub returns-in_ok-goes-in-PastValue : goal.returns-in_ok-goes-in-PastValue
returns-in_ok-goes-in-PastValue c =
    let r = has_come (types c.args.table.now) c.args.around.now.taken c.args.self.now c.take.new.self
    c.args.piece.now (came.PastValue c.in-PastValue.used) c.in-PastValue.is c.in_ok-take.ensures in
    let answers = rw (c.behind-in-PastValue.ensures.limits, c.behind-in-PastValue.ensures.keeps) at
    c.in_ok-goes-in-PastValue.ensures in
    rw c.behind_value.ensures (record {
      each = λ T offset z h o. past_further c.in_ok-goes-in-PastValue.goes c.requires r
          c.behind-in-PastValue.ensures.taken answers h o;
      some = λ l. past_some c.requires.has_read r;
    })
