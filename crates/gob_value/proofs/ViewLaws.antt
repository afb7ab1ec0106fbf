-- A value's tree, variant by variant.
use Rattle.std.proofs.Common.{◌≡◌, ℕ, ℤ, ◌<◌, ◌+◌, Bool, List, [], ◌∷◌, length, get_or, drop, Vec, Global, arith, rules}
use Rattle.std.proofs.Common.{refl, sym, ap, ◌∙◌, add-one}
use Rattle.std.proofs.Math.Seq.{drop-cons}
use Rattle.gob_value.specs.Tree.{Tree, tree, pair, field, tree_count, pair_count}
use Rattle.gob_value.specs.View.{view, views, pair_views, field_views}
use Rattle.gob_value.specs.declared.value.Value.{Value, Bool as BoolV, Int, Uint, Float, Complex, Bytes, Str, Nil, Many}
use Rattle.gob_value.specs.declared.value.Value.{Pairs as PairsV, Fields as FieldsV, Opaque, the_lemmas}

pub view-Bool : (b : Bool) → view (BoolV b) ≡ Tree.bool b
view-Bool b = search (rules, the_lemmas)

pub view-Int : (i : ℤ) → view (Int i) ≡ Tree.int i
view-Int i = search (rules, the_lemmas)

pub view-Uint : (n : ℕ) → view (Uint n) ≡ Tree.uint n
view-Uint n = search (rules, the_lemmas)

pub view-Float : (p : ℕ) → view (Float p) ≡ Tree.float p
view-Float p = search (rules, the_lemmas)

pub view-Complex : (p q : ℕ) → view (Complex p q) ≡ Tree.complex p q
view-Complex p q = search (rules, the_lemmas)

pub view-Bytes : (s : Vec ℕ Global) → view (Bytes s) ≡ Tree.bytes s.items
view-Bytes s = search (rules, the_lemmas)

pub view-Str : (s : Vec ℕ Global) → view (Str s) ≡ Tree.text s.items
view-Str s = search (rules, the_lemmas)

pub view-Nil : view Nil ≡ Tree.nil
view-Nil = search (rules, the_lemmas)

pub view-Many : (vs : Vec Value Global) → view (Many vs) ≡ Tree.many (views vs.items)
view-Many vs = search (rules, the_lemmas)

pub view-Pairs : (ps : Vec (Value × Value) Global) → view (PairsV ps) ≡ Tree.pairs (pair_views ps.items)
view-Pairs ps = search (rules, the_lemmas)

pub view-Fields : (fs : Vec (ℕ × Value) Global) → view (FieldsV fs) ≡ Tree.fields (field_views fs.items)
view-Fields fs = search (rules, the_lemmas)

pub view-Opaque : (s : Vec ℕ Global) → view (Opaque s) ≡ Tree.opaque s.items
view-Opaque s = search (rules, the_lemmas)

-- what is left of a list at an item that a loop has, in trees
pub views_item : (vs : List Value) (i : ℕ) (v : Value) → v ≡ get_or vs i v → i < length vs
    → views (drop i vs) ≡ tree (view v) (views (drop (i + 1) vs))
views_item vs i v is h = from i v h ∙ ap (λ w. tree (view w) (views (drop (i + 1) vs))) (sym is)
  where
    from : (i : ℕ) (d : Value) → i < length vs
        → views (drop i vs) ≡ tree (view (get_or vs i d)) (views (drop (i + 1) vs))
    from i d h = rw (add-one, drop-cons vs i d) refl

pub pair_item : (ps : List (Value × Value)) (i : ℕ) (p : Value × Value) → p ≡ get_or ps i p → i < length ps
    → pair_views (drop i ps) ≡ pair (view p.0) (view p.1) (pair_views (drop (i + 1) ps))
pair_item ps i p is h = from i p h ∙ ap (λ q. pair (view q.0) (view q.1) (pair_views (drop (i + 1) ps))) (sym is)
  where
    from : (i : ℕ) (d : Value × Value) → i < length ps
        → pair_views (drop i ps) ≡ pair (view (get_or ps i d).0) (view (get_or ps i d).1) (pair_views (drop (i + 1) ps))
    from i d h = rw (add-one, drop-cons ps i d) refl

pub field_item : (fs : List (ℕ × Value)) (i : ℕ) (f : ℕ × Value) → f ≡ get_or fs i f → i < length fs
    → field_views (drop i fs) ≡ field f.0 (view f.1) (field_views (drop (i + 1) fs))
field_item fs i f is h = from i f h ∙ ap (λ g. field g.0 (view g.1) (field_views (drop (i + 1) fs))) (sym is)
  where
    from : (i : ℕ) (d : ℕ × Value) → i < length fs
        → field_views (drop i fs) ≡ field (get_or fs i d).0 (view (get_or fs i d).1) (field_views (drop (i + 1) fs))
    from i d h = rw (add-one, drop-cons fs i d) refl

pub tree_count-views : (vs : List Value) → tree_count (views vs) ≡ length vs
tree_count-views [] = refl
tree_count-views (v ∷ vs) = omega (arith, tree_count-views vs)

pub pair_count-views : (ps : List (Value × Value)) → pair_count (pair_views ps) ≡ length ps
pair_count-views [] = refl
pair_count-views (p ∷ ps) = omega (arith, pair_count-views ps)
