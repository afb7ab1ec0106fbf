-- What a part without parts is, by the numbers or the raw bytes that it is told by.
-- (docs/LIBRARY.md, Events.)
use Rattle.std.specs.Prelude.{ℕ, ℤ, pos, negsuc, ◌/◌, ◌%◌, ◌==◌, if◌then◌else◌, List}
use Rattle.gob_types.specs.declared.basic.Basic.{Basic}
use Rattle.gob_types.specs.declared.basic.Basic.TheVariants as basic
use Rattle.gob_value.specs.Tree.{Tree}
use Rattle.gob_read.specs.declared.event.RawKind.{RawKind}
use Rattle.gob_read.specs.declared.event.RawKind.TheVariants as kind

-- the signed number that an unsigned one spells: its last bit is the sign
abbrev pub signed_of : ℕ → ℤ
signed_of n = if n % 2 == 0 then pos (n / 2) else negsuc (n / 2)

-- a part of a basic type, by its numbers
abbrev pub number_tree : Basic → ℕ → ℕ → Tree
number_tree basic.Bool a b = Tree.bool (a == 1)
number_tree basic.Int a b = Tree.int (signed_of a)
number_tree basic.Uint a b = Tree.uint a
number_tree basic.Float a b = Tree.float a
number_tree basic.Complex a b = Tree.complex a b
number_tree _ a b = Tree.nil

-- a part of raw bytes
abbrev pub raw_tree : RawKind → List ℕ → Tree
raw_tree kind.Bytes s = Tree.bytes s
raw_tree kind.Str s = Tree.text s
raw_tree kind.Opaque s = Tree.opaque s
