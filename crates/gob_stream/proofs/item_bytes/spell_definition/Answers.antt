use Rattle.std.proofs.Common.{◌≡◌, negsuc, ◌+◌, ◌-◌, ◌≤◌, arith}
use Rattle.std.proofs.lemmas.Int.{ints}
use Rattle.gob_value.specs.Tree.{depth}
use Rattle.gob_value.specs.View.{view}
use Rattle.gob_stream.proofs.Stream.WireLaws.{fits_base}
use Rattle.gob_stream.specs.WriterRefusal.{refused_id, refused_description, described_wrongly}
use Rattle.gob_stream.proofs.DenialLaws.{denial_weaker, description_denied, value_denied}
use Rattle.gob_stream.proofs.Written.WritingLaws.{appended_two, signed_as, definition_body}
use Rattle.gob_stream.proofs.FaultSteps.{passed}
use Rattle.gob_stream.proofs.item_bytes.spell_definition.Goals as goal

pub returns-in_err-judge_id-clause-err : goal.returns-in_err-judge_id-clause-err
returns-in_err-judge_id-clause-err c = λ most offset.
    passed c.from_residual.result _ c.from_residual.ensures.1
    (refused_id (c.in_err-judge_id.ensures.judged c.args.limits.now most))

pub returns-in_err-spell-clause-err : goal.returns-in_err-spell-clause-err
returns-in_err-spell-clause-err c = λ most offset.
    let fault = rw c.depth.ensures.depth at c.in_err-spell.ensures.fault in
    passed c.from_residual-in_err-spell.result _ c.from_residual-in_err-spell.ensures.1
    (denial_weaker _ (λ r. refused_description (c.in_ok-judge_id.ensures.judged c.args.limits.now most))
    (value_denied c.args.limits.now _ _ (view c.args.described.now) c.in_err-spell.field-0.0 fault))

pub shape_from-requires : goal.shape_from-requires
shape_from-requires c =
    let spelled = c.in_ok-spell.ensures.ok in
    fits_base c.in_ok-judge_id.ensures.known (record { bytes = spelled.bytes; spelled = spelled.spelled })

pub returns-in_err-shape-clause-err : goal.returns-in_err-shape-clause-err
returns-in_err-shape-clause-err c = λ most offset.
    let spelled = c.in_ok-spell.ensures.ok in
    let within : depth (view c.args.described.now) ≤ c.args.limits.now.depth =
    omega (arith, c.in_ok-spell.ensures.within, c.depth.ensures.depth) in
    passed c.from_residual-in_err-shape.result _ c.from_residual-in_err-shape.ensures.1
    (denial_weaker _ (λ r. described_wrongly (c.in_ok-judge_id.ensures.judged c.args.limits.now most) within
    (record { bytes = spelled.bytes; spelled = spelled.spelled }))
    (description_denied c.args.id (view c.args.described.now) c.in_err-shape.field-0.0 c.in_err-shape.ensures.fault))

pub returns-clause-ok : goal.returns-clause-ok
returns-clause-ok c = λ most.
    let number = c.in_ok-write_int.ensures.ok in
    let spelled = c.in_ok-spell.ensures.ok in
    let own = c.in_ok-judge_id.ensures.admitted.own in
    let is : c.args.id.0 ≡ c.args.id.0 - 1 + 1 = omega arith in
    let within : depth (view c.args.described.now) ≤ c.args.limits.now.depth =
    omega (arith, c.in_ok-spell.ensures.within, c.depth.ensures.depth) in
    definition_body c.args.limits.now (c.in_ok-judge_id.ensures.judged c.args.limits.now most) within
    c.in_ok-shape.ensures.shape
    is (signed_as (negsuc (c.args.id.0 - 1)) number.spelled (omega (arith, ints))) spelled.spelled
    (appended_two number.bytes spelled.bytes c.clear.ensures.items number.appended spelled.appended)

pub returns-clause-admitted : goal.returns-clause-admitted
returns-clause-admitted c = c.in_ok-judge_id.ensures.admitted
