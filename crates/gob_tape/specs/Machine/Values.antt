-- What is made of a tape from its last node to its first: the values of parts that are in no part yet.
-- (docs/LIBRARY.md, Tapes.)
use Rattle.std.specs.Prelude.{◌≡◌, ℕ, ◌+◌, ◌≤◌, List, ◌++◌, Option, length, take, drop, map, reverse}
use Rattle.gob_value.specs.declared.value.Value.{Value}
use Rattle.gob_value.specs.Tree.{Tree, Trees, Pairs, Fields, tree_count, pair_count}
use Rattle.gob_value.specs.Tree as tree
use Rattle.gob_value.specs.View.{view, views, pair_views, field_views}
use Rattle.gob_read.specs.declared.event.GroupKind.TheVariants as group
use Rattle.gob_read.specs.Leaf.{number_tree, raw_tree}
use Rattle.gob_tape.specs.declared.node.Content.{Content}
use Rattle.gob_tape.specs.declared.node.Content.TheVariants as content
use Rattle.gob_tape.specs.Meaning.{field_count}
use Rattle.gob_tape.specs.Seeing.{elements, alternating, present, parts_of}

-- the parts on a stack whose last one is the first, each with its number in a struct
abbrev pub parts_on : List (Option ℕ × Value) → List (Option ℕ × Tree)
parts_on ps = map (λ p. (p.0, view p.1)) (reverse ps)

-- the first part was taken, and these are left
pub record TakesPart (f : Option ℕ) (v : Tree) (rest : List (Option ℕ × Tree)) (part : Option ℕ × Value)
    (left : List (Option ℕ × Tree)) : Type 0 where
  pub number : part.0 ≡ f
  pub value : view part.1 ≡ v
  pub others : left ≡ rest

-- where so many elements come first, these values are they, and the parts behind them are left
abbrev pub TakesElements : ℕ → List Value → List (Option ℕ × Tree) → List (Option ℕ × Tree) → Type 0
TakesElements count values old new =
    (vs : Trees) (rest : List (Option ℕ × Tree)) → count ≡ tree_count vs → old ≡ elements vs ++ rest
    → (views values ≡ vs) × (new ≡ rest)

-- so for keys, each with its element
abbrev pub TakesPairs : ℕ → List (Value × Value) → List (Option ℕ × Tree) → List (Option ℕ × Tree) → Type 0
TakesPairs count values old new =
    (ps : Pairs) (rest : List (Option ℕ × Tree)) → count ≡ pair_count ps → old ≡ alternating ps ++ rest
    → (pair_views values ≡ ps) × (new ≡ rest)

-- and for fields
abbrev pub TakesFields : ℕ → List (ℕ × Value) → List (Option ℕ × Tree) → List (Option ℕ × Tree) → Type 0
TakesFields count values old new =
    (fs : Fields) (rest : List (Option ℕ × Tree)) → count ≡ field_count fs → old ≡ present fs ++ rest
    → (field_views values ≡ fs) × (new ≡ rest)

-- the content of the node of a part with this value
abbrev pub IsContentOf : List ℕ → Content → Tree → Type 0
IsContentOf pool (content.Number k a b) v = v ≡ number_tree k a b
IsContentOf pool (content.Raw k start count) v = (start + count ≤ length pool)
    × (v ≡ raw_tree k (take count (drop start pool)))
IsContentOf pool (content.Group group.Many count extent) v = (vs : Trees)
    × ((count ≡ tree_count vs) × (v ≡ tree.many vs))
IsContentOf pool (content.Group group.Pairs count extent) v = (ps : Pairs)
    × ((count ≡ pair_count ps) × (v ≡ tree.pairs ps))
IsContentOf pool (content.Group group.Fields count extent) v = (fs : Fields)
    × ((count ≡ field_count fs) × (v ≡ tree.fields fs))

-- where the parts of a part with this content come first, they are taken, and this is its value
abbrev pub TakesValue : List ℕ → Content → Tree → List (Option ℕ × Tree) → List (Option ℕ × Tree) → Type 0
TakesValue pool c made old new = (v : Tree) (rest : List (Option ℕ × Tree)) → IsContentOf pool c v → old ≡ parts_of v
    ++ rest → (made ≡ v) × (new ≡ rest)
