-- An example: what Go writes of a list of one interface value, the int 5, behind the definition of the list.
use Rattle.std.specs.Prelude.{pos, ◌≤◌, [], ◌∷◌, ◌++◌}
use Rattle.gob_types.specs.declared.kind.Kind.TheVariants as kind
use Rattle.gob_types.specs.Table.{Table}
use Rattle.gob_types.specs.Base.{id, entry, base_table}
use Rattle.gob_value.specs.Tree.{no_tree, tree}
use Rattle.gob_value.specs.Tree as Value
use Rattle.gob_stream.specs.Bounds.{Bounds}
use Rattle.gob_filled.specs.Filled.{Filled, filled, no_filling, filling, no_definitions}
use Rattle.gob_filled.specs.Stream.{IsFilledItem, putting}

abbrev pub list_table : Table
list_table = base_table ++ entry 65 [] (kind.Slice (id 8)) ∷ []

-- one nil, and what fills it: the name int, the type int, and its value
abbrev pub list_of_five : Filled
list_of_five = filled (Value.many (tree Value.nil no_tree)) (filling 2 (105 ∷ 110 ∷ 116 ∷ []) no_definitions (id 2)
    (filled (Value.int (pos 5)) no_filling) no_filling)

abbrev pub GoListIsRead : Type 0
GoListIsRead = (L : Bounds) → 12 ≤ L.item → 13 ≤ L.stream → 3 ≤ L.depth
    → IsFilledItem base_table L list_table 0 (putting (id 65) list_of_five)
    (12 ∷ 255 ∷ 130 ∷ 0 ∷ 1 ∷ 3 ∷ 105 ∷ 110 ∷ 116 ∷ 4 ∷ 2 ∷ 0 ∷ 10 ∷ []) list_table
