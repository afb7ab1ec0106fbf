-- The search has spent some.
use Rattle.gob_salvage.specs.Searching.{HasSpent}
use Rattle.gob_salvage.proofs.search.Search.next_place.Given as goal

abbrev pub invariant-places : goal.invariant-places
invariant-places l = HasSpent l.fn.self l.self
