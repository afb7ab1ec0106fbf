-- From item to item what the piece gives is counted.
use Rattle.std.proofs.Common.{rules, ◌≡◌, ◌∙◌, ◌++◌, refl, arith, length, length-drop, ap}
use Rattle.std.proofs.lemmas.List.{take_rest}
use Rattle.gob_counted.proofs.CountLaws.{all_taken, counts_at, none_yet, stops_piece, up_to}
use Rattle.gob_counted.proofs.counter.Counter.feed.Goals as goal

pub returns-then-has_failed-clause-counted : goal.returns-then-has_failed-clause-counted
returns-then-has_failed-clause-counted g c = λ items bytes h. c.if-has_failed.ensures.unread refl items bytes h.read

pub loop-rest-init : goal.loop-rest-init
loop-rest-init g c = (
  refl,
  λ items bytes h. none_yet g.S.Steps.stepping _ bytes h,
  c.if-has_failed.ensures.failed,
)

pub loop-rest-preserved : goal.loop-rest-preserved
loop-rest-preserved g c =
    let i = c.loop-rest.invariant in (
      c.in_ok-used.ensures.limits ∙ i.0,
      λ items bytes h.
          let u = i.1 items bytes h in
          up_to g.S.Steps.stepping c.in_ok-used.used (take_rest c.loop-rest.rest.now c.in_ok-used.used) u
          (c.in_ok-used.ensures.counted _ (bytes ++ u.prefix) u.on.counted),
      i.2,
    )

pub loop-rest-smaller : goal.loop-rest-smaller
loop-rest-smaller g c =
    let n = c.in_ok-used.used in
    let rest = c.loop-rest.rest.now in
    let some = c.in_ok-used.ensures.used in
    omega (arith, ap length (take_rest rest n), length-drop n rest, some.0, some.1)

pub returns-in_err-used-clause-counted : goal.returns-in_err-used-clause-counted
returns-in_err-used-clause-counted g c = λ items bytes h.
    let D = g.S.Steps.stepping in
    let e = c.in_err-used.field-0.0 in
    let u = c.loop-rest.invariant.1 items bytes h in
    counts_at D c.args.self.now c.take_some.new.self items _ c.from_residual.result e c.from_residual.ensures.1
    (stops_piece D c.take_some.new.self _ _ e c.loop-rest.invariant.0 u
    (c.in_err-used.ensures.counted _ (bytes ++ u.prefix) u.on.counted))

pub returns-in_err-used-clause-limits : goal.returns-in_err-used-clause-limits
returns-in_err-used-clause-limits g c = c.in_err-used.ensures.limits ∙ c.loop-rest.invariant.0

pub returns-clause-counted : goal.returns-clause-counted
returns-clause-counted g c = λ items bytes h.
    let none : length c.loop-rest.rest.now ≡ 0 = search rules in
    all_taken g.S.Steps.stepping none (c.loop-rest.invariant.1 items bytes h)

pub returns-clause-limits : goal.returns-clause-limits
returns-clause-limits g c = c.loop-rest.invariant.0

pub returns-in_err-used-clause-stays : goal.returns-in_err-used-clause-stays
returns-in_err-used-clause-stays g c = λ failed. absurd (c.loop-rest.invariant.2 failed)

pub returns-clause-stays : goal.returns-clause-stays
returns-clause-stays g c = λ failed. absurd (c.loop-rest.invariant.2 failed)
