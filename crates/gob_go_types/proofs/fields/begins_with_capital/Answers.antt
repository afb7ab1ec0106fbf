-- The first character decides.
use Rattle.gob_go_types.proofs.CapitalLaws.{first_capital, no_first}
use Rattle.gob_go_types.proofs.fields.begins_with_capital.Goals as goal

pub returns-in-Some : goal.returns-in-Some
returns-in-Some c =
    first_capital c.args.text.now c.chars.result.rest.now _ c.in-Some.first c.is_capital.result c.chars.ensures.rest
    c.utf8.text c.in-Some.ensures.steps.0 c.is_capital.ensures

pub returns-in-None : goal.returns-in-None
returns-in-None c =
    no_first c.args.text.now c.chars.result.rest.now c.chars.ensures.rest c.in-None.ensures.steps.0.0
