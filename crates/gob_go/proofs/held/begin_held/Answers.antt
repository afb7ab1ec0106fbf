use Rattle.std.proofs.Common.{arith, ap, ◌∙◌, unsigned_abs, w64, rules}
use Rattle.std.proofs.lemmas.Int.{ints, to_z-of_z}
use Rattle.std.proofs.lemmas.Result.{err_from_is_err_and}
use Rattle.gob_go.proofs.HeldSteps.{steps_named, number_named, concrete_stops, concrete_stands}
use Rattle.gob_go.proofs.TypeNumberSteps.{negative_number, positive_number}
use Rattle.gob_go.proofs.held.begin_held.Goals as goal

pub begin_definition-requires : goal.begin_definition-requires
begin_definition-requires c =
    let value = c.unsigned_abs.ensures.value
    ∙ ap (λ i. unsigned_abs i) (to_z-of_z w64 c.to_signed-signed.result (search rules)) in
    number_named (negative_number c.to_signed-signed.ensures (omega (arith, ints)) value)
    c.requires

pub returns-then-signed-lt0 : goal.returns-then-signed-lt0
returns-then-signed-lt0 c =
    let value = c.unsigned_abs.ensures.value
    ∙ ap (λ i. unsigned_abs i) (to_z-of_z w64 c.to_signed-signed.result (search rules)) in
    steps_named (negative_number c.to_signed-signed.ensures (omega (arith, ints)) value)
    c.begin_definition.ensures

pub returns-in_err-count : goal.returns-in_err-count
returns-in_err-count c =
    let value = c.unsigned_abs.ensures.value
    ∙ ap (λ i. unsigned_abs i) (to_z-of_z w64 c.to_signed-signed.result (search rules)) in
    let p = err_from_is_err_and c.from_residual.result c.from_residual.ensures.1 in
    rw (p.1, p.2)
    (steps_named (positive_number c.to_signed-signed.ensures (omega (arith, ints)) value)
    (concrete_stops c.args.levels.now c.args.piece.now c.in_err-count.field-0.0 c.in_err-count.ensures))

pub returns : goal.returns
returns c =
    let value = c.unsigned_abs.ensures.value
    ∙ ap (λ i. unsigned_abs i) (to_z-of_z w64 c.to_signed-signed.result (search rules)) in
    rw c.more.ensures
    (steps_named (positive_number c.to_signed-signed.ensures (omega (arith, ints)) value)
    (concrete_stands c.args.piece.now c.in_ok-count.count c.in_ok-count.ensures))
