use Rattle.std.proofs.Common.{rules}
use Rattle.gob_json.proofs.TextLaws.{utf8_json, bytes_json}
use Rattle.gob_json_writer.proofs.leaf.write_text.Goals as goal

pub returns-in-Ok : goal.returns-in-Ok
returns-in-Ok c = rw (utf8_json c.args.bytes.now c.in-Ok.ensures.cases.1) (search rules)

pub returns-in-Err : goal.returns-in-Err
returns-in-Err c = rw (bytes_json c.args.bytes.now c.in-Err.ensures.cases.0) (search rules)
