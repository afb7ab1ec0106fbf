use Rattle.std.proofs.Common.{◌≡◌, ◌++◌, map, take, drop}
use Rattle.gob_handed.specs.ValueNodes.{behind}
use Rattle.gob_handed.proofs.flat.put_behind.Given as goal

abbrev pub invariant-nodes : goal.invariant-nodes
invariant-nodes l = l.nodes ≡ map (behind l.more) (take l.place l.fn.nodes) ++ drop l.place l.fn.nodes
