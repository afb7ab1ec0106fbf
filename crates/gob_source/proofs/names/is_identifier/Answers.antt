-- A name is an identifier where it is a text that is one.
use Rattle.std.proofs.Common.{arith}
use Rattle.gob_source.proofs.IdentifierLaws.{identifier_of_text, no_identifier}
use Rattle.gob_source.proofs.names.is_identifier.Goals as goal

pub returns-in-Ok : goal.returns-in-Ok
returns-in-Ok c =
    identifier_of_text c.args.name.now c.in-Ok.text.now c.is_identifier_text.result (omega arith)
    c.in-Ok.ensures.cases.0 c.in-Ok.ensures.cases.1 c.is_identifier_text.ensures

pub returns-in-Err : goal.returns-in-Err
returns-in-Err c = no_identifier c.args.name.now c.in-Err.ensures.cases.0
