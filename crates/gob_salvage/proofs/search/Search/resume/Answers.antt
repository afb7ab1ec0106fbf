use Rattle.gob_salvage.specs.Searching.{by_evidence}
use Rattle.gob_salvage.proofs.SearchLaws.{counted_there}
use Rattle.gob_salvage.proofs.search.Search.resume.Goals as goal

pub returns-then-reaches_end-clause-shown : goal.returns-then-reaches_end-clause-shown
returns-then-reaches_end-clause-shown c = λ kept noted.
    counted_there c.in-Some.ensures.frame (c.reaches_end.ensures c.if-reaches_end.true)

pub returns-then-branch-clause-shown : goal.returns-then-branch-clause-shown
returns-then-branch-clause-shown c = λ kept noted.
    by_evidence (c.in_ok-goes_on.ensures.shown kept noted c.if-branch.true)
