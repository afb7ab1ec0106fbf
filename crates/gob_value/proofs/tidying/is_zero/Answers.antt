use Rattle.std.proofs.Common.{◌≡◌, ◌↔◌, IsTrue, ℕ, ℤ, pos, ◌⊎◌, inl, inr, Bool, true, false, List, [], ◌∷◌, length, Vec}
use Rattle.std.proofs.Common.{Global, nat_eq, w64, arith, rules, refl, sym, ap, ◌∙◌, subst}
use Rattle.std.proofs.lemmas.Bool.{eqb-true, eq-eqb}
use Rattle.std.proofs.lemmas.Int.{to_z-of_z}
use mathlib.Core.Bool.{not}
use mir.Val.{of_z, to_z}
use Rattle.gob_value.specs.Tree.{Tree}
use Rattle.gob_value.specs.View.{view}
use Rattle.gob_value.specs.Tidy.{IsZero, of_bool, of_int, of_uint, of_float, of_complex, of_bytes, of_text}
use Rattle.gob_value.specs.declared.value.Value.{Value, Bytes, Str}
use Rattle.gob_value.proofs.ViewLaws.{view-Bool, view-Int, view-Uint, view-Float, view-Complex, view-Bytes, view-Str}
use Rattle.gob_value.proofs.tidying.is_zero.Goals as goal

zero_bool : (x : Bool) → IsTrue (not x) ↔ IsZero (Tree.bool x)
zero_bool false = (λ h. of_bool, λ z. refl)
zero_bool true = (λ h. cc, λ z. elim z [ ])

zero_int : (i : ℤ) → to_z w64 (of_z w64 i) ≡ i → IsTrue (nat_eq (of_z w64 i) 0) ↔ IsZero (Tree.int i)
zero_int i r = (λ h. subst (λ i. IsZero (Tree.int i)) (sym (zero (eqb-true (of_z w64 i) 0 h))) of_int, back)
  where
    zero : of_z w64 i ≡ 0 → i ≡ pos 0
    zero e = sym r ∙ ap (to_z w64) e

    back : {i : ℤ} → IsZero (Tree.int i) → IsTrue (nat_eq (of_z w64 i) 0)
    back of_int = refl

zero_uint : (n : ℕ) → IsTrue (nat_eq n 0) ↔ IsZero (Tree.uint n)
zero_uint n = (λ h. subst (λ n. IsZero (Tree.uint n)) (sym (eqb-true n 0 h)) of_uint, back)
  where
    back : {n : ℕ} → IsZero (Tree.uint n) → IsTrue (nat_eq n 0)
    back of_uint = refl

zero_float : (p : ℕ) → IsTrue (nat_eq p 0) ↔ IsZero (Tree.float p)
zero_float p = (λ h. subst (λ p. IsZero (Tree.float p)) (sym (eqb-true p 0 h)) of_float, back)
  where
    back : {p : ℕ} → IsZero (Tree.float p) → IsTrue (nat_eq p 0)
    back of_float = refl

zero_complex : (p q : ℕ) → p ≡ 0 → IsTrue (nat_eq q 0) ↔ IsZero (Tree.complex p q)
zero_complex p q e = (λ h. rw (e, eqb-true q 0 h) of_complex, back)
  where
    back : {p q : ℕ} → IsZero (Tree.complex p q) → IsTrue (nat_eq q 0)
    back of_complex = refl

zero_bytes : (s : List ℕ) (n : ℕ) → n ≡ length s → IsTrue (nat_eq n 0) ↔ IsZero (Tree.bytes s)
zero_bytes [] n e = (λ h. of_bytes, λ z. eq-eqb n 0 e)
zero_bytes (b ∷ s) n e = (λ h. let z = eqb-true n 0 h in absurd (omega arith), λ z. elim z [ ])

zero_text : (s : List ℕ) (n : ℕ) → n ≡ length s → IsTrue (nat_eq n 0) ↔ IsZero (Tree.text s)
zero_text [] n e = (λ h. of_text, λ z. eq-eqb n 0 e)
zero_text (b ∷ s) n e = (λ h. let z = eqb-true n 0 h in absurd (omega arith), λ z. elim z [ ])

-- whichever of the two variants it is
zero_string : (v : Value) (s : Vec ℕ Global) (n : ℕ) → (v ≡ Bytes s) ⊎ (v ≡ Str s) → n ≡ length s.items
    → IsTrue (nat_eq n 0) ↔ IsZero (view v)
zero_string v s n (inl e) l = rw (e, view-Bytes s) (zero_bytes s.items n l)
zero_string v s n (inr e) l = rw (e, view-Str s) (zero_text s.items n l)

pub returns-in-Bool : goal.returns-in-Bool
returns-in-Bool c = rw (c.in-Bool.is, view-Bool c.in-Bool.x) (zero_bool c.in-Bool.x)

pub returns-in-Int : goal.returns-in-Int
returns-in-Int c = rw (c.in-Int.is, view-Int c.in-Int.i) (zero_int c.in-Int.i (to_z-of_z w64 c.in-Int.i (search rules)))

pub returns-in-Uint : goal.returns-in-Uint
returns-in-Uint c = rw (c.in-Uint.is, view-Uint c.in-Uint.n) (zero_uint c.in-Uint.n)

pub returns-in-Float : goal.returns-in-Float
returns-in-Float c = rw (c.in-Float.is, view-Float c.in-Float.p) (zero_float c.in-Float.p)

pub returns-then-p-eq0 : goal.returns-then-p-eq0
returns-then-p-eq0 c = rw (c.in-Complex.is, view-Complex c.in-Complex.p c.in-Complex.q)
    (zero_complex c.in-Complex.p c.in-Complex.q c.if-p-eq0.true)

pub returns-in-Bytes : goal.returns-in-Bytes
returns-in-Bytes c = let s = c.in-Bytes.s in rw c.is_empty.ensures
    (zero_string c.args.value.now s s.len c.in-Bytes.is s.ok.0)
