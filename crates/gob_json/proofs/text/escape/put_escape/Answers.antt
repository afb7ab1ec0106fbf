-- The three forms of an escape.
use Rattle.std.proofs.Common.{rules}
use Rattle.json.specs.Print.{escape_byte}
use Rattle.gob_json.proofs.text.escape.put_escape.Goals as goal

pub returns-then-letter-gt0 : goal.returns-then-letter-gt0
unfolding escape_byte
returns-then-letter-gt0 g c = search rules

pub returns-then-byte-lt32 : goal.returns-then-byte-lt32
unfolding escape_byte
returns-then-byte-lt32 g c = search rules

pub returns : goal.returns
unfolding escape_byte
returns g c = search rules
