use Rattle.std.proofs.Common.{◌++◌, ap, ◌∙◌}
use Rattle.gob_stream.proofs.Written.WritingLaws.{value_body}
use Rattle.gob_stream.proofs.FaultSteps.{passed}
use Rattle.gob_stream.proofs.item_bytes.spell_head.Goals as goal

pub returns-in_err-judge_type-clause-err : goal.returns-in_err-judge_type-clause-err
returns-in_err-judge_type-clause-err c = passed c.from_residual.result _ c.from_residual.ensures.1
    c.in_err-judge_type.ensures.judged

pub returns-clause-ok : goal.returns-clause-ok
returns-clause-ok c = λ L v spelling spelled.
    let head = c.in_ok-write_head.ensures in
    let may = c.in_ok-judge_type.ensures.judged in
    let is = spelled may.ready in
    value_body L may is.1 head.spelled is.0 (ap (λ h. h ++ spelling) (head.appended
    ∙ ap (λ none. none ++ head.bytes) c.clear.ensures.items))
