-- A value's tree, of the variants without bytes and parts.
use Rattle.std.proofs.Common.{◌≡◌, ℕ, ℤ, Bool, rules}
use Rattle.gob_value.specs.Tree.{Tree}
use Rattle.gob_value.specs.View.{view}
use Rattle.gob_value.specs.declared.value.Value.{Bool as BoolV, Int, Uint, Float, Complex, Nil, the_lemmas}

pub view-Bool : (b : Bool) → view (BoolV b) ≡ Tree.bool b
view-Bool b = search (rules, the_lemmas)

pub view-Int : (i : ℤ) → view (Int i) ≡ Tree.int i
view-Int i = search (rules, the_lemmas)

pub view-Uint : (n : ℕ) → view (Uint n) ≡ Tree.uint n
view-Uint n = search (rules, the_lemmas)

pub view-Float : (p : ℕ) → view (Float p) ≡ Tree.float p
view-Float p = search (rules, the_lemmas)

pub view-Complex : (p q : ℕ) → view (Complex p q) ≡ Tree.complex p q
view-Complex p q = search (rules, the_lemmas)

pub view-Nil : view Nil ≡ Tree.nil
view-Nil = search (rules, the_lemmas)
