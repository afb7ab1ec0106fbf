use Rattle.std.proofs.Common.{arith, ap, ◌∙◌, unsigned_abs, w64, rules}
use Rattle.std.proofs.lemmas.Int.{ints, to_z-of_z}
use Rattle.gob_go.proofs.TypeNumberSteps.{body_named, at_named, negative_number, positive_number}
use Rattle.gob_go.proofs.type_number.begin_body.Goals as goal

pub begin_definition-requires : goal.begin_definition-requires
begin_definition-requires c =
    let value = c.unsigned_abs.ensures.value
    ∙ ap (λ i. unsigned_abs i) (to_z-of_z w64 c.to_signed-signed.result (search rules)) in
    at_named (negative_number c.to_signed-signed.ensures (omega (arith, ints)) value) c.requires

pub returns-then-signed-lt0 : goal.returns-then-signed-lt0
returns-then-signed-lt0 c =
    let value = c.unsigned_abs.ensures.value
    ∙ ap (λ i. unsigned_abs i) (to_z-of_z w64 c.to_signed-signed.result (search rules)) in
    body_named (negative_number c.to_signed-signed.ensures (omega (arith, ints)) value)
    c.begin_definition.ensures

pub begin_put-requires : goal.begin_put-requires
begin_put-requires c =
    let value = c.unsigned_abs.ensures.value
    ∙ ap (λ i. unsigned_abs i) (to_z-of_z w64 c.to_signed-signed.result (search rules)) in
    at_named (positive_number c.to_signed-signed.ensures (omega (arith, ints)) value) c.requires

pub returns : goal.returns
returns c =
    let value = c.unsigned_abs.ensures.value
    ∙ ap (λ i. unsigned_abs i) (to_z-of_z w64 c.to_signed-signed.result (search rules)) in
    body_named (positive_number c.to_signed-signed.ensures (omega (arith, ints)) value)
    c.begin_put.ensures
