use Rattle.std.proofs.Common.{refl}
use Rattle.gob_counted.proofs.CountLaws.{ends, unchanged}
use Rattle.gob_counted.proofs.counter.Counter.finish.Goals as goal

pub returns-then-has_failed-clause-ended : goal.returns-then-has_failed-clause-ended
returns-then-has_failed-clause-ended g c = λ items bytes h. c.if-has_failed.ensures.unread refl items bytes h.read

pub returns-clause-ended : goal.returns-clause-ended
returns-clause-ended g c = λ items bytes h.
    ends g.S.Steps.stepping _ c.finish.new.self c.finish.result h (c.finish.ensures.finished items bytes h.read)

pub returns-clause-whole : goal.returns-clause-whole
returns-clause-whole g c = λ items bytes h.
    unchanged g.S.Steps.stepping c.args.self.now c.finish.new.self c.finish.result
    (c.finish.ensures.whole items bytes h.read)

pub returns-clause-stays : goal.returns-clause-stays
returns-clause-stays g c = λ failed. absurd (c.if-has_failed.ensures.failed failed)
