use Rattle.std.proofs.Common.{pos, arith, rules, w64, ap, ◌∙◌, sym}
use Rattle.std.proofs.Math.IntN.{nat_abs}
use Rattle.std.proofs.lemmas.Int.{ints, to_z-of_z}
use Rattle.gob_value.specs.Description.{gives_array}
use Rattle.gob_value.proofs.DescriptionSteps.{refers_as, not_negative}
use Rattle.gob_value.proofs.described_shape.array_from.Goals as goal

pub returns-clause-kind : goal.returns-clause-kind
returns-clause-kind c =
    let elem = c.number_of.result in
    let len = c.number_of-len.result in
    gives_array (refers_as (to_z-of_z w64 elem (search rules) ∙ c.number_of.ensures) c.in_ok-elem.ensures)
    (sym c.number_of-len.ensures ∙ not_negative len (omega (arith, ints))
    ∙ ap (λ j. pos (nat_abs j)) (sym (to_z-of_z w64 len (search rules))))
