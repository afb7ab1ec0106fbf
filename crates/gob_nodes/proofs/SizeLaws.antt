-- What is counted of no node is all.
use Rattle.std.proofs.Common.{◌≡◌, ℕ, ◌+◌, ◌-◌, ◌^◌, ◌<◌, ◌≤◌, Bool, List, [], ◌∷◌, length, min, arith}
use Rattle.gob_tape.specs.declared.flat.FlatNode.{FlatNode}
use Rattle.gob_nodes.specs.Size.{bytes_size}

pub size_end : (defines : Bool) (left : List FlatNode) (size all : ℕ) → length left < 1 → size ≤ 2 ^ 64 - 1
    → min (size + bytes_size defines left) (2 ^ 64 - 1) ≡ all → size ≡ all
size_end defines [] size all short low e = omega (arith, e, low)
size_end defines (n ∷ ns) size all short low e = absurd (omega (arith, short))
