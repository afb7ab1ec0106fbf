use Rattle.std.proofs.Common.{rules, w64, ◌∙◌}
use Rattle.std.proofs.lemmas.Int.{to_z-of_z}
use Rattle.gob_value.specs.Description.{gives_map}
use Rattle.gob_value.proofs.DescriptionSteps.{refers_as}
use Rattle.gob_value.proofs.described_shape.map_from.Goals as goal

pub returns-clause-kind : goal.returns-clause-kind
returns-clause-kind c =
    let key = c.number_of.result in
    let elem = c.number_of-2.result in
    gives_map (refers_as (to_z-of_z w64 key (search rules) ∙ c.number_of.ensures) c.in_ok-key.ensures)
    (refers_as (to_z-of_z w64 elem (search rules) ∙ c.number_of-2.ensures) c.in_ok-elem.ensures)
