use Rattle.std.proofs.Common.{Contains}
use Rattle.gob_types.proofs.FirstLaws.{FirstAre}
use Rattle.gob_types.proofs.entries.Entries.ids.Given as goal

-- the ids so far were added
abbrev pub invariant-loop-place : goal.invariant-loop-place
invariant-loop-place l = FirstAre (λ entry. Contains l.ids entry.0) l.self l.place
