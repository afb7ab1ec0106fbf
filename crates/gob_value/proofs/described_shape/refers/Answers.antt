use Rattle.std.proofs.Common.{pos, arith, rules, w64, ap, ◌∙◌, sym}
use Rattle.std.proofs.Math.IntN.{nat_abs}
use Rattle.std.proofs.lemmas.Int.{ints, to_z-of_z}
use Rattle.gob_value.proofs.TestSteps.{through}
use Rattle.gob_value.proofs.DescriptionSteps.{not_negative, reference_number}
use Rattle.gob_value.proofs.described_shape.refers.Goals as goal

pub returns-then-number-ge0 : goal.returns-then-number-ge0
returns-then-number-ge0 c =
    let i = c.args.number in
    through c.is_reference.ensures
    (reference_number i _ (not_negative i (omega (arith, ints)) ∙ ap (λ j. pos (nat_abs j))
    (sym (to_z-of_z w64 i (search rules)))))
