use Rattle.std.proofs.Common.{◌<◌, ◌^◌, arith}
use Rattle.gob_value.specs.Described.{described}
use Rattle.gob_stream.specs.WriterRefusal.{refused_description, refused_id}
use Rattle.gob_stream.proofs.DenialLaws.{denial_weaker, value_denied}
use Rattle.gob_stream.proofs.FaultSteps.{passed}
use Rattle.gob_filled_writer.proofs.WriterLaws.{alone}
use Rattle.gob_filled_writer.proofs.head.spell_description.Goals as goal

pub returns-in_err-judge_id-clause-err : goal.returns-in_err-judge_id-clause-err
returns-in_err-judge_id-clause-err c = λ most offset.
    passed c.from_residual.result _ c.from_residual.ensures.1
    (refused_id (c.in_err-judge_id.ensures.judged c.args.limits most))

pub returns-in_err-spell-clause-err : goal.returns-in_err-spell-clause-err
returns-in_err-spell-clause-err c = λ most offset.
    let own = c.in_ok-judge_id.ensures.admitted.own in
    let small : c.args.id.0 < 2 ^ 63 = omega (arith, own.1) in
    let fault = rw (c.depth.ensures.depth, c.in_ok-value.ensures.described small) at c.in_err-spell.ensures.fault in
    passed c.from_residual-in_err-spell.result _ c.from_residual-in_err-spell.ensures.1
    (denial_weaker _ (λ r. refused_description (c.in_ok-judge_id.ensures.judged c.args.limits most))
    (value_denied c.args.limits _ _ (described c.args.id c.args.shape.now) c.in_err-spell.field-0.0 fault))

pub returns-clause-ok : goal.returns-clause-ok
returns-clause-ok c = λ most.
    let own = c.in_ok-judge_id.ensures.admitted.own in
    let small : c.args.id.0 < 2 ^ 63 = omega (arith, own.1) in
    let is = c.in_ok-value.ensures.described small in
    let within = rw is at c.in_ok-spell.ensures.within in
    record {
      may = c.in_ok-judge_id.ensures.judged c.args.limits most;
      definable = c.requires.definable;
      within = omega (arith, within, c.depth.ensures.depth);
      spelled = alone c.new-bytes.ensures.items (rw is at c.in_ok-spell.ensures.ok);
    }
