use Rattle.std.proofs.Common.{◌≡◌, refl}
use Rattle.std.proofs.lemmas.Result.{IfOk-weaker}
use Rattle.gob_handed.proofs.ReadingLaws.{with_session}
use Rattle.gob_handed.proofs.reader.Reader.finish.Goals as goal

pub returns-then-has_failed-clause-finished : goal.returns-then-has_failed-clause-finished
returns-then-has_failed-clause-finished g c = λ items bytes h.
    absurd (c.if-has_failed.ensures.unread refl items bytes h.gave)

pub returns-clause-finished : goal.returns-clause-finished
returns-clause-finished g c = λ items bytes h. c.finish.ensures.finished items bytes h.gave

pub returns-clause-whole : goal.returns-clause-whole
returns-clause-whole g c = λ items bytes h.
    IfOk-weaker c.finish.result (λ _. c.finish.new.self ≡ c.args.self.now.session) _
    (λ _ same. with_session c.args.self.now same) (c.finish.ensures.whole items bytes h.gave)

pub returns-clause-ended : goal.returns-clause-ended
returns-clause-ended g c = λ items bytes h. c.finish.ensures.ended items bytes h.gave

pub returns-clause-stays : goal.returns-clause-stays
returns-clause-stays g c = λ f. absurd (c.if-has_failed.ensures.failed f)
