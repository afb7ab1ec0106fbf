-- What a value costs at least: its parts, itself included, and its raw bytes; and how many of either are told.
-- (docs/LIBRARY.md, Events.)
use Rattle.std.specs.Prelude.{ℕ, ◌+◌, List, [], ◌∷◌, length}
use Rattle.gob_value.specs.Tree.{Tree, Trees, no_tree, tree, Pairs, no_pair, pair, Fields, no_field}
use Rattle.gob_value.specs.Tree as Value
use Rattle.gob_read.specs.Event.{Event, number, raw_start, raw_more, enter, field, leave}

-- the parts of a value, itself included
abbrev mutual
  pub part_count : Tree → ℕ
  part_count (Value.many vs) = parts_of_all vs + 1
  part_count (Value.pairs ps) = parts_of_pairs ps + 1
  part_count (Value.fields fs) = parts_of_fields fs + 1
  part_count _ = 1

  pub parts_of_all : Trees → ℕ
  parts_of_all no_tree = 0
  parts_of_all (tree v vs) = part_count v + parts_of_all vs

  pub parts_of_pairs : Pairs → ℕ
  parts_of_pairs no_pair = 0
  parts_of_pairs (pair k e ps) = part_count k + (part_count e + parts_of_pairs ps)

  pub parts_of_fields : Fields → ℕ
  parts_of_fields no_field = 0
  parts_of_fields (Value.field f v fs) = part_count v + parts_of_fields fs

-- the raw bytes in a value
abbrev mutual
  pub raw_count : Tree → ℕ
  raw_count (Value.bytes s) = length s
  raw_count (Value.text s) = length s
  raw_count (Value.opaque s) = length s
  raw_count (Value.many vs) = raw_of_all vs
  raw_count (Value.pairs ps) = raw_of_pairs ps
  raw_count (Value.fields fs) = raw_of_fields fs
  raw_count _ = 0

  pub raw_of_all : Trees → ℕ
  raw_of_all no_tree = 0
  raw_of_all (tree v vs) = raw_count v + raw_of_all vs

  pub raw_of_pairs : Pairs → ℕ
  raw_of_pairs no_pair = 0
  raw_of_pairs (pair k e ps) = raw_count k + (raw_count e + raw_of_pairs ps)

  pub raw_of_fields : Fields → ℕ
  raw_of_fields no_field = 0
  raw_of_fields (Value.field f v fs) = raw_count v + raw_of_fields fs

abbrev pub weight : Tree → ℕ
weight v = part_count v + raw_count v

-- the parts that the events begin
abbrev pub parts_told : List Event → ℕ
parts_told [] = 0
parts_told (number k a b ∷ us) = parts_told us + 1
parts_told (raw_start k ∷ us) = parts_told us + 1
parts_told (raw_more s ∷ us) = parts_told us
parts_told (enter k ∷ us) = parts_told us + 1
parts_told (field f ∷ us) = parts_told us
parts_told (leave ∷ us) = parts_told us

-- the raw bytes that the events bring
abbrev pub raw_told : List Event → ℕ
raw_told [] = 0
raw_told (raw_more s ∷ us) = raw_told us + length s
raw_told (_ ∷ us) = raw_told us
