-- When the parts of a value are within a limit.
use Rattle.std.proofs.Common.{◌≡◌, ◌↔◌, ℕ, ◌+◌, ◌-◌, ◌<◌, ◌≤◌, List, length, get_or, drop, arith}
use Rattle.gob_value.specs.Tree.{Tree, Trees, Pairs, Fields, depth, trees_depth, pairs_depth, fields_depth}
use Rattle.gob_value.specs.View.{view, views, pair_views, field_views}
use Rattle.gob_value.specs.Written.{HasParts}
use Rattle.gob_value.specs.declared.value.Value.{Value}
use Rattle.gob_value.proofs.TestSteps.{none_left}
use Rattle.gob_value.proofs.ViewLaws.{views_item, pair_item, field_item}

-- every value is at least one deep
pub some_depth : (v : Tree) → 0 < depth v
some_depth (Tree.bool x) = omega arith
some_depth _ = omega arith

pub leaf_within : (limit : ℕ) (v : Tree) → ¬ HasParts v → 0 < limit → depth v ≤ limit
leaf_within limit (Tree.many vs) n l = absurd (n tt)
leaf_within limit (Tree.pairs ps) n l = absurd (n tt)
leaf_within limit (Tree.fields fs) n l = absurd (n tt)
leaf_within limit _ n l = omega arith

-- the parts are one less deep than the value
pub parts_inside : (limit : ℕ) (v : Tree) (vs : Trees) → v ≡ Tree.many vs → 0 < limit → (trees_depth vs ≤ limit - 1)
    ↔ (depth v ≤ limit)
parts_inside limit v vs e l = rw e (λ h. omega arith, λ h. omega arith)

pub pairs_inside : (limit : ℕ) (v : Tree) (ps : Pairs) → v ≡ Tree.pairs ps → 0 < limit → (pairs_depth ps ≤ limit - 1)
    ↔ (depth v ≤ limit)
pairs_inside limit v ps e l = rw e (λ h. omega arith, λ h. omega arith)

pub fields_inside : (limit : ℕ) (v : Tree) (fs : Fields) → v ≡ Tree.fields fs → 0 < limit
    → (fields_depth fs ≤ limit - 1)
    ↔ (depth v ≤ limit)
fields_inside limit v fs e l = rw e (λ h. omega arith, λ h. omega arith)

-- what is left of a list is within the limit where its first part and what is behind that are
module _ (limit : ℕ) where
  pub part_within : (vs : List Value) (i : ℕ) (v : Value) → v ≡ get_or vs i v → i < length vs
      → ((depth (view v) ≤ limit) × (trees_depth (views (drop (i + 1) vs)) ≤ limit))
      ↔ (trees_depth (views (drop i vs)) ≤ limit)
  part_within vs i v is h = rw (views_item vs i v is h) (λ p. omega arith, λ m. (omega arith, omega arith))

  pub parts_end : (vs : List Value) (i : ℕ) → length vs ≤ i → trees_depth (views (drop i vs)) ≤ limit
  parts_end vs i h = rw (none_left vs i h) (omega arith)

  pub pair_within : (ps : List (Value × Value)) (i : ℕ) (p : Value × Value) → p ≡ get_or ps i p → i < length ps
      → ((depth (view p.0) ≤ limit) × (depth (view p.1) ≤ limit) × (pairs_depth (pair_views (drop (i + 1) ps)) ≤ limit))
      ↔ (pairs_depth (pair_views (drop i ps)) ≤ limit)
  pair_within ps i p is h = rw (pair_item ps i p is h) (λ m. omega arith, λ m. (omega arith, omega arith, omega arith))

  pub pairs_end : (ps : List (Value × Value)) (i : ℕ) → length ps ≤ i → pairs_depth (pair_views (drop i ps)) ≤ limit
  pairs_end ps i h = rw (none_left ps i h) (omega arith)

  pub field_within : (fs : List (ℕ × Value)) (i : ℕ) (f : ℕ × Value) → f ≡ get_or fs i f → i < length fs
      → ((depth (view f.1) ≤ limit) × (fields_depth (field_views (drop (i + 1) fs)) ≤ limit))
      ↔ (fields_depth (field_views (drop i fs)) ≤ limit)
  field_within fs i f is h = rw (field_item fs i f is h) (λ p. omega arith, λ m. (omega arith, omega arith))

  pub fields_end : (fs : List (ℕ × Value)) (i : ℕ) → length fs ≤ i → fields_depth (field_views (drop i fs)) ≤ limit
  fields_end fs i h = rw (none_left fs i h) (omega arith)
