-- Elements that zeros stand behind.
use Rattle.std.proofs.Common.{◌≡◌, ◌+◌, ℕ, List, [], ◌∷◌, ◌++◌, sym, subst, length, length-append, arith, Some}
use Rattle.gob_types.specs.declared.id.TypeId.{TypeId}
use Rattle.gob_types.specs.Table.{Table, shape_of}
use Rattle.gob_types.specs.declared.kind.Kind.{Kind}
use Rattle.gob_types.specs.declared.kind.Shape.{Shape}
use Rattle.gob_value.specs.Tree.{Tree, Trees, no_tree, tree}
use Rattle.gob_value.specs.View.{view, views}
use Rattle.gob_value.specs.declared.value.Value.{Value}
use Rattle.gob_make.proofs.ReadLaws.{then_trees, one_more_tree, all_trees}
use Rattle.gob_make.specs.Zero.{AreFilled, IsZeroAs, IsZeroOf, full, of_type, zero, said}

-- so many zeros more fill the elements, of which these are said, up to their count
abbrev pub ZerosGoOn : Table → TypeId → (said now : List Value) → Type 0
ZerosGoOn T e xs ys = (n : ℕ) (ws : Trees) → AreFilled T e n no_tree ws
    → AreFilled T e (length ys + n) (views xs) (then_trees ys ws)

pub no_zero_yet : (T : Table) (e : TypeId) (xs : List Value) → ZerosGoOn T e xs xs
no_zero_yet T e [] = λ n ws f. subst (λ (m : ℕ). AreFilled T e m no_tree ws) (omega arith) f
no_zero_yet T e (x ∷ xs) = λ n ws f.
    let more : length xs + n + 1 ≡ length (x ∷ xs) + n = omega arith in
    subst (λ (m : ℕ). AreFilled T e m (views (x ∷ xs)) (then_trees (x ∷ xs) ws)) more
    (said (no_zero_yet T e xs n ws f))

pub one_more_zero : (T : Table) (e : TypeId) (xs ys : List Value) (y : Value) → ZerosGoOn T e xs ys
    → IsZeroOf T e (view y) → ZerosGoOn T e xs (ys ++ y ∷ [])
one_more_zero T e xs ys y goes z = λ n ws f.
    let more : length ys + (n + 1) ≡ length (ys ++ y ∷ []) + n = omega (arith, length-append ys (y ∷ [])) in
    subst (λ (m : ℕ). AreFilled T e m (views xs) (then_trees (ys ++ y ∷ []) ws)) more
    (subst (λ ts. AreFilled T e (length ys + (n + 1)) (views xs) ts) (sym (one_more_tree ys y ws))
    (goes (n + 1) (tree (view y) ws) (zero z f)))

pub all_zeros : (T : Table) (e : TypeId) (xs ys : List Value) (count : ℕ) → ZerosGoOn T e xs ys → length ys ≡ count
    → AreFilled T e count (views xs) (views ys)
all_zeros T e xs ys count goes same =
    subst (λ (m : ℕ). AreFilled T e m (views xs) (views ys)) (omega (arith, same))
    (subst (λ ts. AreFilled T e (length ys + 0) (views xs) ts) (all_trees ys) (goes 0 no_tree full))

pub zero_as : (T : Table) (t : TypeId) (s : Shape) (k : Kind) (v : Tree) → shape_of T t ≡ Some s → s.kind ≡ k
    → IsZeroAs T k v → IsZeroOf T t v
zero_as T t s k v has is z = of_type has (subst (λ (l : Kind). IsZeroAs T l v) (sym is) z)
