-- How many bytes nodes say: those of byte strings, texts and opaque values, or of a definition those of names.
-- (docs/LIBRARY.md, Flat nodes: this project's own.)
use Rattle.std.specs.Prelude.{ℕ, ◌+◌, ◌==◌, ◌||◌, if◌then◌else◌, Bool, true, false, List, [], ◌∷◌}
use Rattle.gob_tape.specs.declared.flat.FlatNode.{FlatNode}

abbrev pub node_size : (defines : Bool) → FlatNode → ℕ
node_size true n = n.second
node_size false n = if (n.kind == 5) || ((n.kind == 6) || (n.kind == 12)) then n.second else 0

abbrev pub bytes_size : (defines : Bool) → List FlatNode → ℕ
bytes_size defines [] = 0
bytes_size defines (n ∷ ns) = node_size defines n + bytes_size defines ns
