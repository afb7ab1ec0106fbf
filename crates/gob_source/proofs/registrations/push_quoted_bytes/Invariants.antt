-- What is appended, and what the rest would append, is all.
use Rattle.std.proofs.Common.{◌≡◌, ◌++◌, drop}
use Rattle.gob_source.specs.Program.{quoted_bytes}
use Rattle.gob_source.proofs.registrations.push_quoted_bytes.Given as goal

abbrev pub invariant-loop-byte : goal.invariant-loop-byte
invariant-loop-byte l =
    l.out.items ++ quoted_bytes (drop l.byte-index l.name) ≡ l.fn.out.items ++ quoted_bytes l.name
