use Rattle.std.proofs.Common.{◌∙◌, arith, refl, ap}
use Rattle.gob_types.specs.Defined.{types, definition_count}
use Rattle.gob_counted.specs.declared.tally.Tally.{Tally}
use Rattle.gob_counted.proofs.CountLaws.{at_some, step_stops, steps_at, steps_item, steps_none}
use Rattle.gob_counted.proofs.counter.Counter.step.Goals as goal

pub returns-in_err-step-clause-counted : goal.returns-in_err-step-clause-counted
returns-in_err-step-clause-counted g c = λ items bytes h.
    let D = g.S.Steps.stepping in
    let e = c.in_err-step.field-0.0 in
    steps_at D c.args.self.now _ items bytes c.args.piece.now c.from_residual.result e c.from_residual.ensures.1
    (step_stops D _ c.step.new.self c.args.piece.now _ e refl h (c.in_err-step.ensures.stepped items bytes h.read))

pub returns-in-Some-clause-counted : goal.returns-in-Some-clause-counted
returns-in-Some-clause-counted g c = λ items bytes h.
    let D = g.S.Steps.stepping in
    let s = c.in_ok-step.ensures in
    steps_item D c.is_value-is_value.result s.used.1 c.in-Some.is c.is_value-is_value.ensures refl
    (record {
      session_is = c.count.ensures.session ∙ c.take.ensures.session;
      taken_is = c.count.ensures.taken ∙ c.take.ensures.taken;
      items_are = omega (arith, c.count.ensures.items, ap (λ (t : Tally). t.items) c.take.ensures.tally);
      types_are = c.count.ensures.types ∙ ap (λ s. definition_count (types (D.table s))) c.take.ensures.session;
      values_are = omega (arith, c.count.ensures.values, ap (λ (t : Tally). t.values) c.take.ensures.tally);
      bytes_are = omega (arith, c.count.ensures.bytes, c.count.ensures.taken);
    }) s.stands (at_some D c.in-Some.is s.between) s.limits h (s.stepped items bytes h.read)

pub returns-clause-counted : goal.returns-clause-counted
returns-clause-counted g c = λ items bytes h.
    let s = c.in_ok-step.ensures in
    steps_none g.S.Steps.stepping s.used.1 c.in-None.is c.take.ensures.session c.take.ensures.taken
    c.take.ensures.tally s.stands s.limits h (s.stepped items bytes h.read)
