use Rattle.std.proofs.Common.{◌≡◌, ◌++◌, take}
use Rattle.gob_handed.specs.Unfolded.{definition_handouts}
use Rattle.gob_handed.proofs.handout.push_definitions.Given as goal

abbrev pub invariant-ids : goal.invariant-ids
invariant-ids l = l.out.items ≡ l.fn.out.items ++ definition_handouts l.span (take l.place l.ids)
