use Rattle.std.proofs.Common.{drop, subst, sym}
use Rattle.gob_types.specs.Defined.{types}
use Rattle.gob_stream.specs.Bounds.{Bounds, within_trees}
use Rattle.gob_salvage.specs.Evidence.{GoOn}
use Rattle.gob_salvage.specs.Searching.{AreNoted, by_evidence}
use Rattle.gob_salvage.proofs.search.Search.next_place.Goals as goal

pub returns-then-branch-clause-shown : goal.returns-then-branch-clause-shown
returns-then-branch-clause-shown c = λ kept noted.
    let before = subst (λ k. AreNoted k kept) (sym c.places.invariant.types) noted in
    by_evidence (subst (λ (M : Bounds). GoOn (within_trees M) (types c.args.table.now) kept
    (drop c.places.place c.args.bytes.now)) c.places.invariant.limits
    (c.in_ok-begin_there.ensures.shown kept before c.if-branch.true))
