-- The value that stands whole is handed out as it was gathered.
use Rattle.std.proofs.Common.{ap, arith, subst, ◌∙◌}
use Rattle.gob_stream.specs.Bounds.{AreLimits, Bounds, deepest}
use Rattle.gob_handed.proofs.WholeLaws.{handed_next, some_used}
use Rattle.gob_handed.proofs.go.GoSessionHands.whole.Goals as goal

pub returns-clause-some : goal.returns-clause-some
returns-clause-some c = some_used c.in_ok-whole.ensures.body

pub returns-clause-handed : goal.returns-clause-handed
returns-clause-handed c =
    let deep = c.depth.ensures.depth ∙ ap (λ (L : Bounds). L.depth) c.limits.ensures in
    handed_next c.in_ok-value.value
    (subst (λ (L : Bounds). AreLimits deepest L) c.limits.ensures c.depth.ensures.limits)
    (omega (arith, c.min-depth.ensures, deep)) c.in_ok-whole.ensures.body
    (rw c.table.ensures at c.in_ok-value.ensures)
