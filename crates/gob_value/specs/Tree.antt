-- A value of a stream: a part, with the parts in it. A presence is part of it: a field that is present with its zero
-- value isn't an absent one. Byte strings are lists of naturals here; those of a stream have numbers below 256
-- (`HoldsBytes`). (Go's encoding/gob documentation, Types and Values; docs/FORMAT.md, Values.)
use Rattle.std.specs.Prelude.{ℕ, ℤ, ◌+◌, max, List, Bool}

mutual
  pub data Tree : Type 0 where
    bool : Bool → Tree
    int : ℤ → Tree
    uint : ℕ → Tree
    float : ℕ → Tree
    complex : ℕ → ℕ → Tree
    bytes : List ℕ → Tree
    text : List ℕ → Tree
    nil : Tree
    many : Trees → Tree
    pairs : Pairs → Tree
    fields : Fields → Tree
    opaque : List ℕ → Tree

  -- the elements of a slice or an array
  pub data Trees : Type 0 where
    no_tree : Trees
    tree : Tree → Trees → Trees

  -- the keys of a map, each with its element
  pub data Pairs : Type 0 where
    no_pair : Pairs
    pair : Tree → Tree → Pairs → Pairs

  -- the fields of a struct that are present, each with its number
  pub data Fields : Type 0 where
    no_field : Fields
    field : ℕ → Tree → Fields → Fields

abbrev pub tree_count : Trees → ℕ
tree_count no_tree = 0
tree_count (tree v vs) = tree_count vs + 1

abbrev pub pair_count : Pairs → ℕ
pair_count no_pair = 0
pair_count (pair k e ps) = pair_count ps + 1

-- 1 without parts, else one more than the greatest depth of the parts (docs/FORMAT.md, Depth)
abbrev mutual
  pub depth : Tree → ℕ
  depth (many vs) = trees_depth vs + 1
  depth (pairs ps) = pairs_depth ps + 1
  depth (fields fs) = fields_depth fs + 1
  depth _ = 1

  pub trees_depth : Trees → ℕ
  trees_depth no_tree = 0
  trees_depth (tree v vs) = max (depth v) (trees_depth vs)

  pub pairs_depth : Pairs → ℕ
  pairs_depth no_pair = 0
  pairs_depth (pair k e ps) = max (depth k) (max (depth e) (pairs_depth ps))

  pub fields_depth : Fields → ℕ
  fields_depth no_field = 0
  fields_depth (field f v fs) = max (depth v) (fields_depth fs)
