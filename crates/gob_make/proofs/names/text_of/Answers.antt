-- A name is UTF-8 or isn't.
use Rattle.std.proofs.Common.{rules}
use Rattle.gob_make.proofs.NameLaws.{utf8_name, bytes_name}
use Rattle.gob_make.proofs.names.text_of.Goals as goal

pub returns-in-Ok : goal.returns-in-Ok
returns-in-Ok c = rw (utf8_name c.args.name.now c.in-Ok.ensures.cases.1) (search rules)

pub returns-in-Err : goal.returns-in-Err
returns-in-Err c = rw (bytes_name c.args.name.now c.in-Err.ensures.cases.0) c.hex_name.ensures
