use Rattle.std.proofs.Common.{refl}
use Rattle.gob_go.proofs.StageSteps.{expected_there, of_some, answers_there, count_answers, not_failed}
use Rattle.gob_go.proofs.stage.Stage.take.Goals as goal

pub take-requires : goal.take-requires
take-requires c = record { has_read = of_some c.in-Count.is c.requires.has_read }

pub returns-in-Count : goal.returns-in-Count
returns-in-Count c = count_answers c.in-Count.is refl c.requires.has_read c.take.ensures

pub take-requires-in-TypeNumber : goal.take-requires-in-TypeNumber
take-requires-in-TypeNumber c = record { has_read = expected_there c.in-TypeNumber.is c.requires.has_read }

pub returns-in-TypeNumber : goal.returns-in-TypeNumber
returns-in-TypeNumber c = answers_there c.in-TypeNumber.is c.take-in-TypeNumber.ensures

pub take-requires-in-Definition : goal.take-requires-in-Definition
take-requires-in-Definition c = expected_there c.in-Definition.is c.requires.has_read

pub returns-in-Definition : goal.returns-in-Definition
returns-in-Definition c = answers_there c.in-Definition.is c.take-in-Definition.ensures

pub take-requires-in-Put : goal.take-requires-in-Put
take-requires-in-Put c = expected_there c.in-Put.is c.requires.has_read

pub returns-in-Put : goal.returns-in-Put
returns-in-Put c = answers_there c.in-Put.is c.take-in-Put.ensures

pub unreachable-requires : goal.unreachable-requires
unreachable-requires c = not_failed c.requires.has_read c.in-Failed.is
