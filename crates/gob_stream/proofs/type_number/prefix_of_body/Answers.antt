use Rattle.std.proofs.Common.{pos, negsuc, arith, ap, ◌∙◌, unsigned_abs, w64, rules}
use Rattle.std.proofs.lemmas.Int.{ints, to_z-of_z}
use Rattle.gob_stream.proofs.Reader.NumberSteps.{signed_as, negative_of, not_negative_of}
use Rattle.gob_stream.proofs.type_number.prefix_of_body.Goals as goal

pub returns-then-number-lt0 : goal.returns-then-number-lt0
returns-then-number-lt0 g c = λ offset m d a body k b u r.
    let f = negative_of c.to_signed-number.result c.unsigned_abs.result (omega (arith, ints))
    (c.unsigned_abs.ensures.value
    ∙ ap (λ i. unsigned_abs i) (to_z-of_z w64 c.to_signed-number.result (search rules))) in
    c.prefix_of_description.ensures offset m f.0 d a body k b f.2
    (signed_as {j = negsuc f.0} f.1 (c.to_signed-number.ensures a u)) r

pub returns : goal.returns
returns g c = λ offset m d a body k b u r.
    let f = not_negative_of c.to_signed-number.result c.unsigned_abs.result (omega (arith, ints))
    (c.unsigned_abs.ensures.value
    ∙ ap (λ i. unsigned_abs i) (to_z-of_z w64 c.to_signed-number.result (search rules))) in
    c.prefix_of_value.ensures offset m d a body k b (signed_as {j = pos c.unsigned_abs.result} f
    (c.to_signed-number.ensures a u)) r
