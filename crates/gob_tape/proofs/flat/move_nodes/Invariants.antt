use Rattle.std.proofs.Common.{◌≡◌, ◌++◌, ◌≤◌, length, map, drop}
use Rattle.gob_tape.specs.FlatNodes.{flat}
use Rattle.gob_tape.proofs.flat.move_nodes.Given as goal

abbrev pub invariant-nodes : goal.invariant-nodes
invariant-nodes l =
    (map flat l.left.items ++ drop (length l.left.items) l.out
    ≡ map flat l.fn.nodes.items ++ drop (length l.fn.nodes.items) l.fn.out)
    × (length l.left.items ≤ length l.out)

abbrev pub decreases-nodes : goal.decreases-nodes
decreases-nodes l = length l.left.items
