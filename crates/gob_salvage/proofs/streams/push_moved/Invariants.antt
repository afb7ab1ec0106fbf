-- So many were appended.
use Rattle.std.proofs.Common.{◌≡◌, ◌++◌, drop}
use Rattle.gob_salvage.specs.Streams.{moved}
use Rattle.gob_salvage.proofs.streams.push_moved.Given as goal

abbrev pub invariant-loop-gap : goal.invariant-loop-gap
invariant-loop-gap l = l.gaps.items ++ moved l.begin (drop l.gap-index l.more) ≡ l.fn.gaps.items ++ moved l.begin l.more
