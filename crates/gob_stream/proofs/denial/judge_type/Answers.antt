use Rattle.std.proofs.Common.{ap}
use Rattle.std.proofs.lemmas.Result.{err_from_is_err_and}
use Rattle.gob_stream.specs.WriterRefusal.{private_type}
use Rattle.gob_stream.proofs.Stream.StreamLaws.{same_id}
use Rattle.gob_stream.proofs.DenialLaws.{type_denied}
use Rattle.gob_stream.proofs.Written.WritingLaws.{ready_small}
use Rattle.gob_stream.proofs.denial.judge_type.Goals as goal

pub returns-then-id-clause-judged : goal.returns-then-id-clause-judged
returns-then-id-clause-judged c = private_type (same_id c.if-id.true)

pub returns-in_err-ready-clause-judged : goal.returns-in_err-ready-clause-judged
returns-in_err-ready-clause-judged c =
    let p = err_from_is_err_and c.from_residual.result c.from_residual.ensures.1 in
    rw (p.1, p.2)
    (type_denied _ _ c.in_err-ready.field-0.0 (λ e. c.if-id.false (ap (λ i. i.0) e)) c.in_err-ready.ensures.judged)

pub returns-clause-judged : goal.returns-clause-judged
returns-clause-judged c = record { public = λ e. c.if-id.false (ap (λ i. i.0) e); ready = c.in_ok-ready.ensures.judged }

pub returns-clause-small : goal.returns-clause-small
returns-clause-small c = ready_small c.in_ok-ready.ensures.known c.in_ok-ready.ensures.judged
