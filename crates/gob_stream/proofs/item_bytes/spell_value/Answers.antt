use Rattle.std.proofs.Common.{◌≤◌, arith}
use Rattle.gob_value.specs.Tree.{depth}
use Rattle.gob_value.specs.View.{view}
use Rattle.gob_stream.specs.WriterRefusal.{refused_type, refused_value}
use Rattle.gob_stream.proofs.DenialLaws.{denial_weaker, value_denied}
use Rattle.gob_stream.proofs.Written.WritingLaws.{appended_two, value_body}
use Rattle.gob_stream.proofs.FaultSteps.{passed}
use Rattle.gob_stream.proofs.item_bytes.spell_value.Goals as goal

pub returns-in_err-judge_type-clause-err : goal.returns-in_err-judge_type-clause-err
returns-in_err-judge_type-clause-err c = λ offset.
    passed c.from_residual.result _ c.from_residual.ensures.1
    (denial_weaker _ (λ r. refused_type) c.in_err-judge_type.ensures.judged)

pub returns-in_err-spell-clause-err : goal.returns-in_err-spell-clause-err
returns-in_err-spell-clause-err c = λ offset.
    let fault = rw c.depth.ensures.depth at c.in_err-spell.ensures.fault in
    passed c.from_residual-in_err-spell.result _ c.from_residual-in_err-spell.ensures.1
    (denial_weaker _ (λ r. refused_value c.in_ok-judge_type.ensures.judged)
    (value_denied c.args.limits.now _ _ (view c.args.value.now) c.in_err-spell.field-0.0 fault))

pub returns-clause-ok : goal.returns-clause-ok
returns-clause-ok c =
    let head = c.in_ok-write_head.ensures in
    let spelled = c.in_ok-spell.ensures.ok in
    let within : depth (view c.args.value.now) ≤ c.args.limits.now.depth = omega (
      arith,
      c.in_ok-spell.ensures.within,
      c.depth.ensures.depth,
    ) in
    value_body c.args.limits.now c.in_ok-judge_type.ensures.judged within head.spelled spelled.spelled
    (appended_two head.bytes spelled.bytes c.clear.ensures.items head.appended spelled.appended)
