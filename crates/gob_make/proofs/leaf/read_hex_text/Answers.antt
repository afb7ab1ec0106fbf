use Rattle.std.proofs.Common.{rules}
use Rattle.gob_json.proofs.TextLaws.{bytes_json}
use Rattle.gob_make.proofs.leaf.read_hex_text.Goals as goal

pub returns-in-Err-clause-read : goal.returns-in-Err-clause-read
returns-in-Err-clause-read c =
    let bad = rw c.as_slice.ensures.value at c.in-Err.ensures.cases.0 in
    rw (bytes_json c.in_ok-bytes.bytes.items bad) (search rules)
