use Rattle.std.proofs.Common.{◌≡◌, None}
use Rattle.gob_types.specs.Table.{shape_of, IsDefined}
use Rattle.gob_types.specs.Defined.{types}
use Rattle.gob_types.proofs.LeastLaws.{LeastSoFar}
use Rattle.gob_types.proofs.readiness.least_undefined.Given as goal

-- the least of the ids so far that isn't defined
abbrev pub invariant-loop-id : goal.invariant-loop-id
invariant-loop-id l = LeastSoFar (IsDefined (types l.table)) (λ u. shape_of (types l.table) u ≡ None) l.id-items
    l.id-index l.least
