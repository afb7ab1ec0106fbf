-- When a value fits, by its shape.
use Rattle.std.proofs.Common.{◌≡◌, ◌↔◌, ℕ, ◌+◌, ◌-◌, ◌^◌, ◌<◌, ◌≤◌, Bool, true, false, cond, List, [], ◌++◌, length}
use Rattle.std.proofs.Common.{get_or, drop, Some, None, arith, refl, sym, ◌∙◌, subst, eqb}
use Rattle.std.specs.Prelude.{slice_get}
use Rattle.std.proofs.lemmas.Bool.{eqb-true, eq-eqb}
use Rattle.gob_num.proofs.PublicLaws.{unsigned_spelled}
use Rattle.gob_types.specs.declared.id.TypeId.{TypeId}
use Rattle.gob_types.specs.declared.kind.Field.{Field}
use Rattle.gob_types.specs.declared.kind.Kind.{Kind}
use Rattle.gob_types.specs.declared.kind.Kind.TheVariants as kind
use Rattle.gob_types.specs.declared.kind.Shape.{Shape}
use Rattle.gob_types.specs.Table.{Table, shape_of}
use Rattle.gob_types.proofs.PublicLaws.{some_injective}
use Rattle.gob_value.specs.Tree.{Tree, Trees, tree, Pairs, pair, Fields, field, tree_count, pair_count}
use Rattle.gob_value.specs.Tree.{depth, trees_depth, pairs_depth, fields_depth}
use Rattle.gob_value.specs.View.{view, views, pair_views, field_views}
use Rattle.gob_value.specs.Machine.Elements.{element_type_at}
use Rattle.gob_value.specs.Fits.{FitsKind}
use Rattle.gob_value.specs.Within.{FitsWithin, IsSpelledWithin}
use Rattle.gob_value.specs.Written.{HasParts}
use Rattle.gob_value.specs.Spelling.{Spells, of_type, SpellsAs, of_slice, of_array, of_map, of_struct, SpellsEach}
use Rattle.gob_value.specs.Spelling.{no_element, element, SpellsPairs, no_entry, entry, SpellsFields, end_of_fields}
use Rattle.gob_value.specs.Spelling.{next_field}
use Rattle.gob_value.specs.declared.value.Value.{Value}
use Rattle.gob_value.proofs.LeafLaws.{leaf_any}
use Rattle.gob_value.proofs.TestSteps.{none_left}
use Rattle.gob_value.proofs.ViewLaws.{views_item, pair_item, field_item}
use Rattle.gob_value.proofs.WithinLaws.{leaf_within}

chosen : (b : Bool) (x e : TypeId) → cond b (Some x) None ≡ Some e → (b ≡ true) × (x ≡ e)
chosen true x e h = (refl, some_injective h)
chosen false x e h = cc

-- an array's element type, where the length is right
pub array_length : (x e : TypeId) (n count : ℕ) → element_type_at (kind.Array x n) count ≡ Some e → (count ≡ n)
    × (x ≡ e)
array_length x e n count h = let r = chosen (eqb n count) x e h in (sym (eqb-true n count r.0), r.1)

array_element : (x : TypeId) (n count : ℕ) → count ≡ n → element_type_at (kind.Array x n) count ≡ Some x
array_element x n count h = rw (eq-eqb n count (sym h))

module _ (T : Table) where
  pub fits_at : (t : TypeId) (s : Shape) (limit : ℕ) (v : Tree) → shape_of T t ≡ Some s
      → IsSpelledWithin (SpellsAs T s.kind) depth limit v ↔ FitsWithin T t limit v
  fits_at t s limit v e = (
    λ f. record { bytes = f.bytes; spelled = of_type e f.spelled; within = f.within },
    λ f. record
        { bytes = f.bytes; spelled = there f.spelled e; within = f.within },
  )
    where
      there : {b : List ℕ} {s : Shape} → Spells T t v b → shape_of T t ≡ Some s → SpellsAs T s.kind v b
      there {b = b} {s = s} (of_type {s = r} f p) e =
          let one : r ≡ s = some_injective (sym f ∙ e) in subst (λ (s : Shape). SpellsAs T s.kind v b) one p

  pub fits_leaf : (k : Kind) (limit : ℕ) (v : Tree) → ¬ HasParts v → 0 < limit → FitsKind [] k v
      ↔ IsSpelledWithin (SpellsAs T k) depth limit v
  fits_leaf k limit v n l = (
    λ f. record { bytes = f.bytes; spelled = leaf_any [] T k v f.bytes n f.spelled; within = leaf_within limit v n l },
    λ f. record { bytes = f.bytes; spelled = leaf_any T [] k v f.bytes n f.spelled },
  )

  pub fits_many : (k : Kind) (vs : Trees) (e : TypeId) (limit : ℕ) → element_type_at k (tree_count vs) ≡ Some e
      → tree_count vs < 2 ^ 64 → 0 < limit
      → IsSpelledWithin (SpellsEach T e) trees_depth (limit - 1) vs ↔ IsSpelledWithin (SpellsAs T k) depth limit
      (Tree.many vs)
  fits_many k vs e limit h l o = (
    λ f. let r = on k vs e h l f.bytes f.spelled in let w = f.within in record
        { bytes = r.bytes; spelled = r.spelled; within = omega arith },
    λ f. let r = back e f.spelled h in let w = f.within in record { bytes = r.0; spelled = r.1; within = omega arith },
  )
    where
      on : (k : Kind) (vs : Trees) (e : TypeId) → element_type_at k (tree_count vs) ≡ Some e → tree_count vs < 2 ^ 64
          → (b : List ℕ) → SpellsEach T e vs b → FitsKind T k (Tree.many vs)
      on (kind.Slice x) vs e h l b p =
          let c = unsigned_spelled (tree_count vs) l in
          record {
            bytes = c.bytes ++ b;
            spelled = of_slice c.spelled
                (subst (λ e. SpellsEach T e vs b) (some_injective (sym h)) p);
          }
      on (kind.Array x n) vs e h l b p =
          let r = array_length x e n (tree_count vs) h in
          let c = unsigned_spelled n (omega (arith, r.0)) in
          record {
            bytes = c.bytes ++ b;
            spelled = of_array r.0 c.spelled (subst (λ e. SpellsEach T e vs b) (sym r.1) p);
          }
      on _ vs e h l b p = cc

      back : {k : Kind} {vs : Trees} {b : List ℕ} (e : TypeId) → SpellsAs T k (Tree.many vs) b
          → element_type_at k (tree_count vs) ≡ Some e → (c : List ℕ) × SpellsEach T e vs c
      back {vs = vs} e (of_slice {b = c} p ps) h = (c, subst (λ e. SpellsEach T e vs c) (some_injective h) ps)
      back {vs = vs} e (of_array {e = x} {n = n} {b = c} m p ps) h =
          (c, subst (λ e. SpellsEach T e vs c) (array_length x e n (tree_count vs) h).1 ps)

  pub fits_no_list : (k : Kind) (vs : Trees) (limit : ℕ) → element_type_at k (tree_count vs) ≡ None
      → ¬ IsSpelledWithin (SpellsAs T k) depth limit (Tree.many vs)
  fits_no_list k vs limit h f = nowhere f.spelled h
    where
      nowhere : {k : Kind} {vs : Trees} {b : List ℕ} → SpellsAs T k (Tree.many vs) b
          → element_type_at k (tree_count vs) ≡ None → ⊥
      nowhere (of_slice p ps) h = cc
      nowhere {vs = vs} (of_array {e = e} {n = n} m p ps) h = let g = array_element e n (tree_count vs) m in cc

  pub fits_map : (k e : TypeId) (ps : Pairs) (limit : ℕ) → pair_count ps < 2 ^ 64 → 0 < limit
      → IsSpelledWithin (SpellsPairs T k e) pairs_depth (limit - 1) ps ↔ IsSpelledWithin (SpellsAs T (kind.Map k e))
      depth limit (Tree.pairs ps)
  fits_map k e ps limit l o = (
    λ f. let c = unsigned_spelled (pair_count ps) l in let w = f.within in record
        { bytes = c.bytes ++ f.bytes; spelled = of_map c.spelled f.spelled; within = omega arith },
    λ f. let r = back f.spelled in let w = f.within in record { bytes = r.0; spelled = r.1; within = omega arith },
  )
    where
      back : {k e : TypeId} {ps : Pairs} {b : List ℕ} → SpellsAs T (kind.Map k e) (Tree.pairs ps) b → (c : List ℕ)
          × SpellsPairs T k e ps c
      back (of_map {b = c} p ps) = (c, ps)

  pub fits_struct : (types : List Field) (fs : Fields) (limit : ℕ) → 0 < limit
      → IsSpelledWithin (SpellsFields T types 0) fields_depth (limit - 1) fs
      ↔ IsSpelledWithin (SpellsAs T (kind.Struct types)) depth limit (Tree.fields fs)
  fits_struct types fs limit o = (
    λ f. let w = f.within in record { bytes = f.bytes; spelled = of_struct f.spelled; within = omega arith },
    λ f. let w = f.within in record { bytes = f.bytes; spelled = back f.spelled; within = omega arith },
  )
    where
      back : {types : List Field} {fs : Fields} {b : List ℕ} → SpellsAs T (kind.Struct types) (Tree.fields fs) b
          → SpellsFields T types 0 fs b
      back (of_struct ps) = ps

  -- an element and the rest
  pub all_fit_item : (e : TypeId) (limit : ℕ) (vs : List Value) (i : ℕ) (v : Value) → v ≡ get_or vs i v → i < length vs
      → (FitsWithin T e limit (view v) × IsSpelledWithin (SpellsEach T e) trees_depth limit (views (drop (i + 1) vs)))
      ↔ IsSpelledWithin (SpellsEach T e) trees_depth limit (views (drop i vs))
  all_fit_item e limit vs i v is h = rw (views_item vs i v is h) (more (view v) (views (drop (i + 1) vs)))
    where
      back : {v : Tree} {vs : Trees} {b : List ℕ} → SpellsEach T e (tree v vs) b → (x : List ℕ) × (y : List ℕ)
          × Spells T e v x × SpellsEach T e vs y
      back (element {b = x} {c = y} p ps) = (x, y, p, ps)

      more : (v : Tree) (vs : Trees) → (FitsWithin T e limit v × IsSpelledWithin (SpellsEach T e) trees_depth limit vs)
          ↔ IsSpelledWithin (SpellsEach T e) trees_depth limit (tree v vs)
      more v vs = (
        λ f. let a = f.0.within in let b = f.1.within in record
            { bytes = f.0.bytes ++ f.1.bytes; spelled = element f.0.spelled f.1.spelled; within = omega arith },
        λ f. let r = back f.spelled in let w = f.within in (
          record { bytes = r.0; spelled = r.2; within = omega arith },
          record
              { bytes = r.1; spelled = r.3; within = omega arith },
        ),
      )

  pub all_fit_end : (e : TypeId) (limit : ℕ) (vs : List Value) (i : ℕ) → length vs ≤ i
      → IsSpelledWithin (SpellsEach T e) trees_depth limit (views (drop i vs))
  all_fit_end e limit vs i h = rw (none_left vs i h) (record { bytes = []; spelled = no_element; within = omega arith })

  -- a key, its element and the rest
  pub pairs_fit_item : (k e : TypeId) (limit : ℕ) (ps : List (Value × Value)) (i : ℕ) (p : Value × Value)
      → p ≡ get_or ps i p → i < length ps
      → (FitsWithin T k limit (view p.0) × FitsWithin T e limit (view p.1)
      × IsSpelledWithin (SpellsPairs T k e) pairs_depth limit (pair_views (drop (i + 1) ps)))
      ↔ IsSpelledWithin (SpellsPairs T k e) pairs_depth limit (pair_views (drop i ps))
  pairs_fit_item k e limit ps i p is h = rw (pair_item ps i p is h)
      (more (view p.0) (view p.1) (pair_views (drop (i + 1) ps)))
    where
      back : {x v : Tree} {ps : Pairs} {b : List ℕ} → SpellsPairs T k e (pair x v ps) b → (a : List ℕ) × (c : List ℕ)
          × (d : List ℕ) × Spells T k x a × Spells T e v c × SpellsPairs T k e ps d
      back (entry {a = a} {b = c} {c = d} p q ps) = (a, c, d, p, q, ps)

      more : (x v : Tree) (ps : Pairs)
          → (FitsWithin T k limit x × FitsWithin T e limit v × IsSpelledWithin (SpellsPairs T k e) pairs_depth limit ps)
          ↔ IsSpelledWithin (SpellsPairs T k e) pairs_depth limit (pair x v ps)
      more x v ps = (
        λ f. let a = f.0.within in let b = f.1.within in let c = f.2.within in
            record {
              bytes = f.0.bytes ++ (f.1.bytes ++ f.2.bytes);
              spelled = entry f.0.spelled f.1.spelled f.2.spelled;
              within = omega arith;
            },
        λ f. let r = back f.spelled in let w = f.within in (
          record { bytes = r.0; spelled = r.3; within = omega arith },
          record
              { bytes = r.1; spelled = r.4; within = omega arith },
          record
              { bytes = r.2; spelled = r.5; within = omega arith },
        ),
      )

  pub pairs_fit_end : (k e : TypeId) (limit : ℕ) (ps : List (Value × Value)) (i : ℕ) → length ps ≤ i
      → IsSpelledWithin (SpellsPairs T k e) pairs_depth limit (pair_views (drop i ps))
  pairs_fit_end k e limit ps i h = rw (none_left ps i h)
      (record { bytes = []; spelled = no_entry; within = omega arith })

  -- a field and the rest
  module _ (types : List Field) (limit : ℕ) where
    pub field_fits_item : (next : ℕ) (fs : List (ℕ × Value)) (i : ℕ) (f : ℕ × Value) (e : Field) → f ≡ get_or fs i f
        → i < length fs → next ≤ f.0 → f.0 + 1 < 2 ^ 64 → slice_get types f.0 ≡ Some e
        → (FitsWithin T e.id limit (view f.1) × IsSpelledWithin (SpellsFields T types (f.0 + 1)) fields_depth limit
        (field_views (drop (i + 1) fs)))
        ↔ IsSpelledWithin (SpellsFields T types next) fields_depth limit (field_views (drop i fs))
    field_fits_item next fs i f e is h l b m = rw (field_item fs i f is h)
        (more next f.0 e (view f.1) (field_views (drop (i + 1) fs)) l b m)
      where
        back : {next f : ℕ} {e : Field} {v : Tree} {fs : Fields} {b : List ℕ}
            → SpellsFields T types next (field f v fs) b → slice_get types f ≡ Some e
            → (x : List ℕ) × (y : List ℕ) × Spells T e.id v x × SpellsFields T types (f + 1) fs y
        back {v = v} (next_field {b = x} {c = y} l m p q ps) n =
            (x, y, subst (λ (e : Field). Spells T e.id v x) (some_injective (sym m ∙ n)) q, ps)

        more : (next f : ℕ) (e : Field) (v : Tree) (fs : Fields) → next ≤ f → f + 1 < 2 ^ 64
            → slice_get types f ≡ Some e
            → (FitsWithin T e.id limit v × IsSpelledWithin (SpellsFields T types (f + 1)) fields_depth limit fs)
            ↔ IsSpelledWithin (SpellsFields T types next) fields_depth limit (field f v fs)
        more next f e v fs l b m = (
          λ g. let s = unsigned_spelled (f + 1 - next) (omega arith) in let a = g.0.within in let c = g.1.within in
              record {
                bytes = s.bytes ++ (g.0.bytes ++ g.1.bytes);
                spelled = next_field l m s.spelled g.0.spelled
                    g.1.spelled;
                within = omega arith;
              },
          λ g. let r = back g.spelled m in let w = g.within in (
            record { bytes = r.0; spelled = r.2; within = omega arith },
            record
                { bytes = r.1; spelled = r.3; within = omega arith },
          ),
        )

    pub fields_fit_end : (next : ℕ) (fs : List (ℕ × Value)) (i : ℕ) → length fs ≤ i
        → IsSpelledWithin (SpellsFields T types next) fields_depth limit (field_views (drop i fs))
    fields_fit_end next fs i h = rw (none_left fs i h)
        (let s = unsigned_spelled 0 (omega arith) in record
        { bytes = s.bytes; spelled = end_of_fields s.spelled; within = omega arith })

    -- a number that isn't above the one before, or of which there is no field
    pub field_low : (next : ℕ) (fs : List (ℕ × Value)) (i : ℕ) (f : ℕ × Value) → f ≡ get_or fs i f → i < length fs
        → f.0 < next → ¬ IsSpelledWithin (SpellsFields T types next) fields_depth limit (field_views (drop i fs))
    field_low next fs i f is h l = rw (field_item fs i f is h) (λ g. nowhere g.spelled l)
      where
        nowhere : {next f : ℕ} {v : Tree} {fs : Fields} {b : List ℕ} → SpellsFields T types next (field f v fs) b
            → f < next → ⊥
        nowhere (next_field l m p q ps) n = omega arith

    pub field_past : (next : ℕ) (fs : List (ℕ × Value)) (i : ℕ) (f : ℕ × Value) → f ≡ get_or fs i f → i < length fs
        → slice_get types f.0 ≡ None → ¬ IsSpelledWithin (SpellsFields T types next) fields_depth limit
        (field_views (drop i fs))
    field_past next fs i f is h l = rw (field_item fs i f is h) (λ g. nowhere g.spelled l)
      where
        nowhere : {next f : ℕ} {v : Tree} {fs : Fields} {b : List ℕ} → SpellsFields T types next (field f v fs) b
            → slice_get types f ≡ None → ⊥
        nowhere (next_field l m p q ps) n = cc

-- a map fits no kind but that of a map
pub record MapFitted (k : Kind) : Type 0 where
  pub key : TypeId
  pub elem : TypeId
  pub is : k ≡ kind.Map key elem

pub map_fitted : {T : Table} {k : Kind} {limit : ℕ} {ps : Pairs} → IsSpelledWithin (SpellsAs T k) depth limit
    (Tree.pairs ps)
    → MapFitted k
map_fitted f = inside f.spelled
  where
    inside : {T : Table} {k : Kind} {ps : Pairs} {b : List ℕ} → SpellsAs T k (Tree.pairs ps) b → MapFitted k
    inside (of_map {k = x} {e = e} c p) = record { key = x; elem = e; is = refl }

-- and fields fit no kind but that of a struct
pub record StructFitted (k : Kind) : Type 0 where
  pub types : List Field
  pub is : k ≡ kind.Struct types

pub struct_fitted : {T : Table} {k : Kind} {limit : ℕ} {fs : Fields}
    → IsSpelledWithin (SpellsAs T k) depth limit (Tree.fields fs)
    → StructFitted k
struct_fitted f = inside f.spelled
  where
    inside : {T : Table} {k : Kind} {fs : Fields} {b : List ℕ} → SpellsAs T k (Tree.fields fs) b → StructFitted k
    inside (of_struct {types = x} p) = record { types = x; is = refl }

-- no value fits a type that isn't there
pub fits_none : (T : Table) (t : TypeId) (limit : ℕ) (v : Tree) → shape_of T t ≡ None → ¬ FitsWithin T t limit v
fits_none T t limit v e f = nowhere f.spelled
  where
    nowhere : {b : List ℕ} → Spells T t v b → ⊥
    nowhere (of_type h p) = cc
