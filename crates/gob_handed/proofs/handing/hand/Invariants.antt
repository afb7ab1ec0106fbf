use Rattle.std.proofs.Common.{◌≡◌, take, drop, length, ◌≤◌}
use Rattle.gob_types.specs.Defined.{types}
use Rattle.gob_handed.specs.Handed.{AreHanded}
use Rattle.gob_handed.proofs.handing.hand.Given as goal

abbrev pub invariant-handouts : goal.invariant-handouts
invariant-handouts l =
    (AreHanded (types l.table) (take l.index l.fn.handouts) (take l.index l.heads)
    (take l.at.nodes l.nodes) (take l.at.bytes l.pool)
    × ((l.at.nodes ≤ length l.nodes) × (l.at.bytes ≤ length l.pool)))
    × (drop l.index l.handouts ≡ drop l.index l.fn.handouts)
