use Rattle.std.proofs.Common.{◌≡◌, ◌++◌, ◌≤◌, length, drop}
use Rattle.gob_handed.proofs.room.move_nodes.Given as goal

abbrev pub invariant-nodes : goal.invariant-nodes
invariant-nodes l =
    (l.left.items ++ drop (length l.left.items) l.out ≡ l.fn.nodes.items ++ drop (length l.fn.nodes.items) l.fn.out)
    × (length l.left.items ≤ length l.out)

abbrev pub decreases-nodes : goal.decreases-nodes
decreases-nodes l = length l.left.items
