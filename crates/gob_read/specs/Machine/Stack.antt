-- What the program has under way of a value, without where it lies in memory.
use Rattle.std.specs.Prelude.{List, map, reverse}
use Rattle.std.specs.Option.{option_map}
use Rattle.gob_value.specs.View.{view}
use Rattle.gob_read.specs.Machine.Built.{OpenPart, raw, many, pairs, fields}
use Rattle.gob_read.specs.Machine.Built as built
use Rattle.gob_read.specs.declared.tree_stack.TreeStack.{TreeStack}
use Rattle.gob_read.specs.declared.tree_part.TreePart.{TreePart}
use Rattle.gob_read.specs.declared.tree_part.TreePart.TheVariants as open_part

abbrev pub part_view : TreePart → OpenPart
part_view (open_part.Raw k s) = raw k s.items
part_view (open_part.Many vs) = many (map view vs.items)
part_view (open_part.Pairs ps key) = pairs (map (λ p. (view p.0, view p.1)) ps.items) (option_map view key)
part_view (open_part.Fields fs next) = fields (map (λ f. (f.0, view f.1)) fs.items) next

-- innermost first
abbrev pub stack_view : List TreePart → List OpenPart
stack_view items = map part_view (reverse items)

abbrev pub work_of : TreeStack → built.Work
work_of w = record { parts = stack_view w.parts.items; whole = option_map view w.whole }
