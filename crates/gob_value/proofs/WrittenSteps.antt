-- One step of writing the parts of a value.
use Rattle.std.proofs.Common.{◌≡◌, ℕ, ◌+◌, ◌-◌, ◌^◌, ◌<◌, ◌≤◌, List, [], ◌++◌, length, get_or, drop, arith}
use Rattle.gob_num.specs.Unsigned.{IsUnsigned}
use Rattle.gob_num.proofs.PublicLaws.{unsigned_fits}
use Rattle.gob_value.specs.Tree.{Tree, Trees, tree, Pairs, pair, Fields, field, fields_depth}
use Rattle.gob_value.specs.Tree.{depth, trees_depth, pairs_depth}
use Rattle.gob_value.specs.View.{view, views, pair_views, field_views}
use Rattle.gob_value.specs.Written.{Written, of_many, of_pairs, of_fields, WrittenEach, no_element, element}
use Rattle.gob_value.specs.Written.{WrittenPairs, no_entry, entry, WrittenFields, end_of_fields, next_field}
use Rattle.gob_value.specs.declared.value.Value.{Value}
use Rattle.gob_value.specs.Within.{IsSpelledWithin}
use Rattle.gob_value.proofs.AppendedLaws.{Behind}
use Rattle.gob_value.proofs.TestSteps.{none_left}
use Rattle.gob_value.proofs.ViewLaws.{views_item, pair_item, field_item}

-- ---- the parts of a value that can be written can be written

pub many_writable : (vs : Trees) → IsSpelledWithin Written depth 1000 (Tree.many vs)
    → IsSpelledWithin WrittenEach trees_depth 1000 vs
many_writable vs w = let r = inside w.spelled in let s = w.within in record
    { bytes = r.0; spelled = r.1; within = omega arith }
  where
    inside : {vs : Trees} {b : List ℕ} → Written (Tree.many vs) b → (c : List ℕ) × WrittenEach vs c
    inside (of_many {b = c} p ps) = (c, ps)

pub pairs_writable : (ps : Pairs) → IsSpelledWithin Written depth 1000 (Tree.pairs ps)
    → IsSpelledWithin WrittenPairs pairs_depth 1000 ps
pairs_writable ps w = let r = inside w.spelled in let s = w.within in record
    { bytes = r.0; spelled = r.1; within = omega arith }
  where
    inside : {ps : Pairs} {b : List ℕ} → Written (Tree.pairs ps) b → (c : List ℕ) × WrittenPairs ps c
    inside (of_pairs {b = c} p ps) = (c, ps)

pub fields_writable : (fs : Fields) → IsSpelledWithin Written depth 1000 (Tree.fields fs)
    → IsSpelledWithin (WrittenFields 0) fields_depth 1000 fs
fields_writable fs w = let s = w.within in record
    { bytes = w.bytes; spelled = inside w.spelled; within = omega arith }
  where
    inside : {fs : Fields} {b : List ℕ} → Written (Tree.fields fs) b → WrittenFields 0 fs b
    inside (of_fields ps) = ps

-- ---- elements

module _ (vs : List Value) (i : ℕ) where
  pub each_left : (v : Value) → v ≡ get_or vs i v → i < length vs → IsSpelledWithin WrittenEach trees_depth 1000
      (views (drop i vs))
      → IsSpelledWithin Written depth 1000 (view v) × IsSpelledWithin WrittenEach trees_depth 1000
      (views (drop (i + 1) vs))
  each_left v is h = rw (views_item vs i v is h) (λ w. let r = inside w.spelled in let s = w.within in (
    record { bytes = r.0; spelled = r.2; within = omega arith },
    record
        { bytes = r.1; spelled = r.3; within = omega arith },
  ))
    where
      inside : {v : Tree} {vs : Trees} {b : List ℕ} → WrittenEach (tree v vs) b → (x : List ℕ) × (y : List ℕ)
          × Written v x × WrittenEach vs y
      inside (element {b = x} {c = y} p ps) = (x, y, p, ps)

  pub each_from : (v : Value) → v ≡ get_or vs i v → i < length vs → (b c : List ℕ) → Written (view v) b
      → WrittenEach (views (drop (i + 1) vs)) c → WrittenEach (views (drop i vs)) (b ++ c)
  each_from v is h b c p ps = rw (views_item vs i v is h) (element p ps)

  pub each_end : length vs ≤ i → WrittenEach (views (drop i vs)) []
  each_end h = rw (none_left vs i h) no_element

-- ---- keys and elements

module _ (ps : List (Value × Value)) (i : ℕ) where
  pub pairs_left : (p : Value × Value) → p ≡ get_or ps i p → i < length ps
      → IsSpelledWithin WrittenPairs pairs_depth 1000 (pair_views (drop i ps))
      → IsSpelledWithin Written depth 1000 (view p.0) × IsSpelledWithin Written depth 1000 (view p.1)
      × IsSpelledWithin WrittenPairs pairs_depth 1000 (pair_views (drop (i + 1) ps))
  pairs_left p is h = rw (pair_item ps i p is h) (λ w. let r = inside w.spelled in let s = w.within in (
    record { bytes = r.0; spelled = r.3; within = omega arith },
    record
        { bytes = r.1; spelled = r.4; within = omega arith },
    record
        { bytes = r.2; spelled = r.5; within = omega arith },
  ))
    where
      inside : {x v : Tree} {ps : Pairs} {b : List ℕ} → WrittenPairs (pair x v ps) b → (a : List ℕ) × (c : List ℕ)
          × (d : List ℕ) × Written x a × Written v c × WrittenPairs ps d
      inside (entry {a = a} {b = c} {c = d} p q ps) = (a, c, d, p, q, ps)

  pub pairs_from : (p : Value × Value) → p ≡ get_or ps i p → i < length ps → (b r : List ℕ) → Written (view p.0) b
      → Behind (Written (view p.1)) (WrittenPairs (pair_views (drop (i + 1) ps))) r
      → WrittenPairs (pair_views (drop i ps)) (b ++ r)
  pairs_from p is h b r x s = rw (pair_item ps i p is h, s.whole) (entry x s.first s.second)

  pub pairs_end : length ps ≤ i → WrittenPairs (pair_views (drop i ps)) []
  pairs_end h = rw (none_left ps i h) no_entry

-- ---- fields

-- what a loop over fields needs of the next one
pub record FieldLeft (next : ℕ) (f : ℕ × Value) (behind : Fields) : Type 0 where
  pub rises : next ≤ f.0
  pub small : f.0 + 1 - next < 2 ^ 64
  pub value : IsSpelledWithin Written depth 1000 (view f.1)
  pub rest : IsSpelledWithin (WrittenFields (f.0 + 1)) fields_depth 1000 behind

module _ (fs : List (ℕ × Value)) (i : ℕ) where
  pub field_left : (next : ℕ) (f : ℕ × Value) → f ≡ get_or fs i f → i < length fs
      → IsSpelledWithin (WrittenFields next) fields_depth 1000 (field_views (drop i fs))
      → FieldLeft next f (field_views (drop (i + 1) fs))
  field_left next f is h = rw (field_item fs i f is h)
      (λ w. let r = inside f.0 (view f.1) w.spelled w.within in record
      { rises = r.0; small = r.1; value = r.2; rest = r.3 })
    where
      inside : {next : ℕ} {fs : Fields} {b : List ℕ} (f : ℕ) (v : Tree) → WrittenFields next (field f v fs) b
          → fields_depth (field f v fs) ≤ 1000
          → (next ≤ f) × (f + 1 - next < 2 ^ 64) × IsSpelledWithin Written depth 1000 v
          × IsSpelledWithin (WrittenFields (f + 1)) fields_depth 1000 fs
      inside f v (next_field {b = x} {c = y} l n p ps) s = (
        l,
        unsigned_fits n,
        record { bytes = x; spelled = p; within = omega arith },
        record
            { bytes = y; spelled = ps; within = omega arith },
      )

  pub field_from : (next : ℕ) (f : ℕ × Value) → f ≡ get_or fs i f → i < length fs → next ≤ f.0 → (b r : List ℕ)
      → IsUnsigned (f.0 + 1 - next) b
      → Behind (Written (view f.1)) (WrittenFields (f.0 + 1) (field_views (drop (i + 1) fs))) r
      → WrittenFields next (field_views (drop i fs)) (b ++ r)
  field_from next f is h l b r n s = rw (field_item fs i f is h, s.whole) (next_field l n s.first s.second)

  pub fields_end : (next : ℕ) (b : List ℕ) → length fs ≤ i → IsUnsigned 0 b
      → WrittenFields next (field_views (drop i fs)) b
  fields_end next b h p = rw (none_left fs i h) (end_of_fields p)
