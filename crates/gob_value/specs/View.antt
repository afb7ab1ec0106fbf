-- A `Value` of the program as a tree, without where it lies in memory.
use Rattle.std.specs.Prelude.{ℕ, List, [], ◌∷◌, map}
use Rattle.gob_value.specs.Tree.{Tree, Trees, no_tree, tree, Pairs, no_pair, pair, Fields, no_field, field}
use Rattle.gob_value.specs.declared.value.Value.{Value, fold-Value}
use Rattle.gob_value.specs.declared.value.Value.TheOpen.{Value-F}

abbrev pub trees_of : List Tree → Trees
trees_of [] = no_tree
trees_of (v ∷ vs) = tree v (trees_of vs)

abbrev pub pairs_of : List (Tree × Tree) → Pairs
pairs_of [] = no_pair
pairs_of (p ∷ ps) = pair p.0 p.1 (pairs_of ps)

abbrev pub fields_of : List (ℕ × Tree) → Fields
fields_of [] = no_field
fields_of (f ∷ fs) = field f.0 f.1 (fields_of fs)

-- one level, with each value inside already seen as its tree
abbrev pub view_step : Value-F Tree → Tree
view_step (Value-F.Bool b) = Tree.bool b
view_step (Value-F.Int i) = Tree.int i
view_step (Value-F.Uint n) = Tree.uint n
view_step (Value-F.Float p) = Tree.float p
view_step (Value-F.Complex p q) = Tree.complex p q
view_step (Value-F.Bytes s) = Tree.bytes s.items
view_step (Value-F.Str s) = Tree.text s.items
view_step Value-F.Nil = Tree.nil
view_step (Value-F.Many vs) = Tree.many (trees_of vs.items)
view_step (Value-F.Pairs ps) = Tree.pairs (pairs_of ps.items)
view_step (Value-F.Fields fs) = Tree.fields (fields_of fs.items)
view_step (Value-F.Opaque s) = Tree.opaque s.items

abbrev pub view : Value → Tree
view = fold-Value Tree view_step

abbrev pub views : List Value → Trees
views vs = trees_of (map view vs)

abbrev pub pair_views : List (Value × Value) → Pairs
pair_views ps = pairs_of (map (λ p. (view p.0, view p.1)) ps)

abbrev pub field_views : List (ℕ × Value) → Fields
field_views fs = fields_of (map (λ f. (f.0, view f.1)) fs)
