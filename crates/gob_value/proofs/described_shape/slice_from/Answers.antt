use Rattle.std.proofs.Common.{rules, w64, ◌∙◌}
use Rattle.std.proofs.lemmas.Int.{to_z-of_z}
use Rattle.gob_value.specs.Description.{gives_slice}
use Rattle.gob_value.proofs.DescriptionSteps.{refers_as}
use Rattle.gob_value.proofs.described_shape.slice_from.Goals as goal

pub returns-clause-kind : goal.returns-clause-kind
returns-clause-kind c =
    let elem = c.number_of.result in
    gives_slice (refers_as (to_z-of_z w64 elem (search rules) ∙ c.number_of.ensures) c.in_ok-elem.ensures)
