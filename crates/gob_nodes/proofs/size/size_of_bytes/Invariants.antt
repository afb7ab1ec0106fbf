-- What was counted and what is left are all.
use Rattle.std.proofs.Common.{◌≡◌, ◌≤◌, ◌+◌, ◌-◌, ◌^◌, length, min}
use Rattle.gob_nodes.specs.Size.{bytes_size}
use Rattle.gob_nodes.proofs.size.size_of_bytes.Given as goal

abbrev pub invariant-nodes : goal.invariant-nodes
invariant-nodes l = record {
  small : l.size ≤ 2 ^ 64 - 1;
  all : min (l.size + bytes_size l.defines l.left) (2 ^ 64 - 1) ≡ min (bytes_size l.defines l.fn.nodes) (2 ^ 64 - 1);
}

abbrev pub decreases-nodes : goal.decreases-nodes
decreases-nodes l = length l.left
