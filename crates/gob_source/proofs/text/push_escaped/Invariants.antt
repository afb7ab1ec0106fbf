-- What is appended, and what the rest would append, is all.
use Rattle.std.proofs.Common.{◌≡◌, ◌++◌, drop}
use Rattle.gob_source.specs.Names.{escaped}
use Rattle.gob_source.proofs.text.push_escaped.Given as goal

abbrev pub invariant-loop-byte : goal.invariant-loop-byte
invariant-loop-byte l = l.out.items ++ escaped (drop l.byte-index l.bytes) ≡ l.fn.out.items ++ escaped l.bytes
