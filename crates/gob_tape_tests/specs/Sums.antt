-- The sum of the ints of a list.
use Rattle.std.specs.Prelude.{ℤ, pos, ◌+ℤ◌}
use Rattle.gob_value.specs.Tree.{Trees, no_tree, tree}
use Rattle.gob_value.specs.Tree as Value

abbrev pub sum_of : Trees → ℤ
sum_of no_tree = pos 0
sum_of (tree (Value.int i) vs) = i +ℤ sum_of vs
sum_of (tree _ vs) = sum_of vs
