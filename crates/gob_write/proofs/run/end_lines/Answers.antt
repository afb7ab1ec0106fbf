use Rattle.gob_write.proofs.ShownRunLaws.{flushed_shown, unflushed_shown}
use Rattle.gob_write.proofs.MakeLaws.{flushed_made, unflushed_made}
use Rattle.gob_write.proofs.run.end_lines.Goals as goal

pub returns-in-Ok-clause-made : goal.returns-in-Ok-clause-made
returns-in-Ok-clause-made g c = λ L types most bytes old h.
    unflushed_made L types most bytes old _ _ c.in-Ok.field-0 c.flush-flushed.ensures.bytes (rw c.in-Ok.is at h)

pub returns-in_default-answer-clause-made : goal.returns-in_default-answer-clause-made
returns-in_default-answer-clause-made g c = λ L types most bytes old h.
    flushed_made L types most bytes old _ _ c.args.answer c.flush-flushed.ensures.bytes h

pub returns-in_default-answer-2-clause-made : goal.returns-in_default-answer-2-clause-made
returns-in_default-answer-2-clause-made g c = λ L types most bytes old h.
    flushed_made L types most bytes old _ _ c.args.answer c.flush-flushed.ensures.bytes h

pub returns-in-Ok-clause-shown : goal.returns-in-Ok-clause-shown
returns-in-Ok-clause-shown g c = λ H L most bytes old h.
    unflushed_shown H L most bytes old _ _ c.flush-flushed.ensures.bytes (rw c.in-Ok.is at h)

pub returns-in_default-answer-clause-shown : goal.returns-in_default-answer-clause-shown
returns-in_default-answer-clause-shown g c = λ H L most bytes old h.
    flushed_shown H L most bytes old _ _ c.args.answer c.flush-flushed.ensures.bytes h

pub returns-in_default-answer-2-clause-shown : goal.returns-in_default-answer-2-clause-shown
returns-in_default-answer-2-clause-shown g c = λ H L most bytes old h.
    flushed_shown H L most bytes old _ _ c.args.answer c.flush-flushed.ensures.bytes h
