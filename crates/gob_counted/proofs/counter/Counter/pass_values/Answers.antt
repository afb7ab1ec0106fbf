use Rattle.std.proofs.Common.{◌∙◌, arith, refl, ap}
use Rattle.gob_types.specs.Defined.{types, definition_count}
use Rattle.gob_counted.specs.declared.tally.Tally.{Tally}
use Rattle.gob_counted.proofs.CountLaws.{counts_passed, passed_none}
use Rattle.gob_counted.proofs.counter.Counter.pass_values.Goals as goal

pub returns-then-passed-eq0-clause-counted : goal.returns-then-passed-eq0-clause-counted
returns-then-passed-eq0-clause-counted g c = λ items bytes h.
    let p = c.pass_values-passed.ensures in
    passed_none g.S.Steps.stepping (omega arith) p.passed refl refl refl p.stands p.taken p.limits h

pub returns-clause-counted : goal.returns-clause-counted
returns-clause-counted g c = λ items bytes h.
    let D = g.S.Steps.stepping in
    let p = c.pass_values-passed.ensures in
    let between = p.between (omega arith) in
    counts_passed D p.passed
    (record {
      session_is = c.count.ensures.session ∙ c.take.ensures.session;
      taken_is = c.count.ensures.taken ∙ c.take.ensures.taken;
      items_are = omega (arith, c.count.ensures.items, ap (λ (t : Tally). t.items) c.take.ensures.tally);
      types_are = c.count.ensures.types ∙ ap (λ s. definition_count (types (D.table s))) c.take.ensures.session;
      values_are = omega (arith, c.count.ensures.values, ap (λ (t : Tally). t.values) c.take.ensures.tally);
      bytes_are = omega (arith, c.count.ensures.bytes, c.count.ensures.taken);
    }) between.0 between.1 p.stands p.taken p.types p.limits h
