-- A name is exported where it is a text that begins with a capital.
use Rattle.gob_go_types.proofs.CapitalLaws.{exported_text, not_exported}
use Rattle.gob_go_types.proofs.fields.is_exported.Goals as goal

pub returns-in-Ok : goal.returns-in-Ok
returns-in-Ok c =
    exported_text c.args.name.now c.in-Ok.text.now c.begins_with_capital.result c.in-Ok.ensures.cases.0
    c.in-Ok.ensures.cases.1 c.begins_with_capital.ensures

pub returns-in-Err : goal.returns-in-Err
returns-in-Err c = not_exported c.args.name.now c.in-Err.ensures.cases.0
