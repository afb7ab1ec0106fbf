-- Nodes and bytes that are given, and what is wrong with them. (docs/LIBRARY.md, Flat nodes: this project's own.)
use Rattle.std.specs.Prelude.{ℕ, ◌+◌, ◌≤◌, List, length, take, drop}
use Rattle.gob_tape.specs.declared.flat.FlatNode.{FlatNode}
use Rattle.gob_nodes.specs.declared.fault.NodesFault.{NodesFault}
use Rattle.gob_nodes.specs.declared.fault.NodesFault.TheVariants as fault

-- the bytes have those of which the node says where they stand
abbrev pub HasBytes : List ℕ → FlatNode → Type 0
HasBytes bytes n = n.first + n.second ≤ length bytes

-- which are these
abbrev pub bytes_of : List ℕ → FlatNode → List ℕ
bytes_of bytes n = take n.second (drop n.first bytes)

-- the fault is one of the nodes, and not want of memory
abbrev pub IsWrong : NodesFault → Type 0
IsWrong (fault.Wrong node) = Unit {0}
IsWrong fault.Memory = ⊥
