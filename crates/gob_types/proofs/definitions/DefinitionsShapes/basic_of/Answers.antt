use Rattle.std.proofs.Common.{◌∙◌, sym}
use Rattle.gob_types.proofs.BasicLaws.{basic_of-table}
use Rattle.gob_types.proofs.definitions.DefinitionsShapes.basic_of.Goals as goal

pub returns : goal.returns
returns c = c.basic.ensures ∙ sym (basic_of-table c.learn.ensures.types c.args.id)
