-- The search has spent some.
use Rattle.gob_salvage.specs.Searching.{HasSpent}
use Rattle.gob_salvage.proofs.later.find_later.Given as goal

abbrev pub invariant-ids : goal.invariant-ids
invariant-ids l = HasSpent l.fn.search l.search
