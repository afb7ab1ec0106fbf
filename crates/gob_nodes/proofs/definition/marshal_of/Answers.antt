use Rattle.gob_nodes.specs.Shapes.{is_binary, is_gob, is_text}
use Rattle.gob_nodes.proofs.definition.marshal_of.Goals as goal

pub returns-in-1-clause-says : goal.returns-in-1-clause-says
returns-in-1-clause-says c = is_gob c.in-1.is

pub returns-in-2-clause-says : goal.returns-in-2-clause-says
returns-in-2-clause-says c = is_binary c.in-2.is

pub returns-in-3-clause-says : goal.returns-in-3-clause-says
returns-in-3-clause-says c = is_text c.in-3.is
