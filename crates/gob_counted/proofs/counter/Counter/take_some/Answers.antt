use Rattle.std.proofs.Common.{◌≡◌, ◌∙◌, ◌++◌, ap, append-nil, arith, take}
use Rattle.gob_counted.proofs.CountLaws.{steps_behind}
use Rattle.gob_counted.proofs.counter.Counter.take_some.Goals as goal

pub returns-clause-counted : goal.returns-clause-counted
returns-clause-counted g c = λ items bytes h.
    let on = c.pass_values-passed.ensures.counted items bytes h in
    let piece = c.args.piece.now in
    let passed = c.pass_values-passed.result in
    let none : passed ≡ 0 = omega arith in
    let here : bytes ++ take passed piece ≡ bytes = ap (λ k. bytes ++ take k piece) none ∙ append-nil bytes in
    steps_behind g.S.Steps.stepping c.args.self.now c.pass_values-passed.new.self c.step.new.self items on.more bytes
    (bytes ++ take passed piece) piece c.step.result here c.pass_values-passed.ensures.limits
    (c.step.ensures.counted (items ++ on.more) (bytes ++ take passed piece) on.counted)
