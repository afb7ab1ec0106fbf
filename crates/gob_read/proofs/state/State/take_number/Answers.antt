use Rattle.gob_read.proofs.Machine.ItemSteps.{takes_or_blames, take_at, tag_can, second_can, here_takes}
use Rattle.gob_read.proofs.Machine.ItemSteps.{wrong_tag_refuses, part_can, part_takes, part_refuses}
use Rattle.gob_read.proofs.state.State.take_number.Goals as goal

pub take_tag-requires : goal.take_tag-requires
take_tag-requires g c = tag_can (take_at c.in-Tag.is c.requires)

pub returns-in-Tag : goal.returns-in-Tag
returns-in-Tag g c =
    takes_or_blames c.take_tag.result (λ moved h. here_takes h)
    (λ r h. wrong_tag_refuses (take_at c.in-Tag.is c.requires).expected h) c.take_tag.ensures

pub take_part-requires : goal.take_part-requires
take_part-requires g c = part_can (take_at c.in-Part.is c.requires)

pub returns-in-Part : goal.returns-in-Part
returns-in-Part g c =
    takes_or_blames c.take_part.result (λ moved h. part_takes (take_at c.in-Part.is c.requires).expected h)
    (λ r h. part_refuses (take_at c.in-Part.is c.requires).expected h) c.take_part.ensures

pub take_imaginary-requires : goal.take_imaginary-requires
take_imaginary-requires g c = second_can (take_at c.in-Second.is c.requires)

pub returns-in_ok-take_imaginary-in-Second : goal.returns-in_ok-take_imaginary-in-Second
returns-in_ok-take_imaginary-in-Second g c = here_takes c.in_ok-take_imaginary-in-Second.ensures

pub take_delta-requires : goal.take_delta-requires
take_delta-requires g c = take_at c.in-Delta.is c.requires
