use Rattle.gob_go.proofs.PartNames.{part_there, part_of_some, part_answers, each_answers, in_value_there, value_answers}
use Rattle.gob_go.proofs.part.PutPart.take.Goals as goal

pub take_value-requires : goal.take_value-requires
take_value-requires c = in_value_there c.in-Value.is c.requires.has_read

pub returns-in-Value : goal.returns-in-Value
returns-in-Value c = value_answers c.in-Value.is c.take_value.ensures

pub take-requires : goal.take-requires
take-requires c = record { has_read = part_there c.in-NameLength.is c.requires.has_read }

pub returns-in-NameLength : goal.returns-in-NameLength
returns-in-NameLength c = part_answers c.in-NameLength.is c.take.ensures

pub take-requires-in-Name : goal.take-requires-in-Name
take-requires-in-Name c = part_of_some c.in-Name.is c.requires.has_read

pub returns-in-Name : goal.returns-in-Name
returns-in-Name c = each_answers c.in-Name.is c.requires.has_read c.take-in-Name.ensures

pub take-requires-in-TypeNumber : goal.take-requires-in-TypeNumber
take-requires-in-TypeNumber c = record { has_read = part_there c.in-TypeNumber.is c.requires.has_read }

pub returns-in-TypeNumber : goal.returns-in-TypeNumber
returns-in-TypeNumber c = part_answers c.in-TypeNumber.is c.take-in-TypeNumber.ensures

pub take-requires-in-Description : goal.take-requires-in-Description
take-requires-in-Description c = record { has_read = part_there c.in-Description.is c.requires.has_read }

pub returns-in-Description : goal.returns-in-Description
returns-in-Description c = part_answers c.in-Description.is c.take-in-Description.ensures

pub take-requires-in-NextCount : goal.take-requires-in-NextCount
take-requires-in-NextCount c = part_of_some c.in-NextCount.is c.requires.has_read

pub returns-in-NextCount : goal.returns-in-NextCount
returns-in-NextCount c = each_answers c.in-NextCount.is c.requires.has_read c.take-in-NextCount.ensures

pub take-requires-in-InnerCount : goal.take-requires-in-InnerCount
take-requires-in-InnerCount c = record { has_read = part_there c.in-InnerCount.is c.requires.has_read }

pub returns-in-InnerCount : goal.returns-in-InnerCount
returns-in-InnerCount c = part_answers c.in-InnerCount.is c.take-in-InnerCount.ensures
