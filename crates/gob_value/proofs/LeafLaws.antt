-- When a value without parts fits a kind.
use Rattle.std.proofs.Common.{◌≡◌, ◌↔◌, IsTrue, ℕ, ℤ, ◌^◌, ◌<◌, Bool, true, false, List, length, arith, refl, sym}
use Rattle.std.proofs.Common.{subst}
use Rattle.std.specs.Prelude.{FitsSigned}
use Rattle.std.specs.Int.{w64}
use Rattle.gob_num.proofs.PublicLaws.{unsigned_spelled, signed_spelled, pattern_spelled}
use Rattle.gob_types.specs.declared.basic.Basic.TheVariants as basic
use Rattle.gob_types.specs.declared.kind.Kind.{Kind}
use Rattle.gob_types.specs.declared.kind.Kind.TheVariants as kind
use Rattle.gob_types.specs.declared.kind.Marshal.{Marshal}
use Rattle.gob_types.specs.Table.{Table}
use Rattle.gob_value.specs.Tree.{Tree}
use Rattle.gob_value.specs.Fits.{FitsKind}
use Rattle.gob_value.specs.Spelling.{SpellsAs, of_bool, of_int, of_uint, of_float, of_complex, of_nil, of_bytes}
use Rattle.gob_value.specs.Spelling.{of_text, of_opaque, of_slice, of_array, of_map, of_struct, truth}
use Rattle.gob_value.specs.Written.{HasParts}

-- a test of the kind tells whether a value that is seen as this tree fits
pub at_kind : {b : Bool} {P : Type 0} {T : Table} {k : Kind} {v w : Tree} → v ≡ w → IsTrue b ↔ P → P ↔ FitsKind T k w
    → IsTrue b ↔ FitsKind T k v
at_kind {T = T} {k = k} e f g =
    (λ h. subst (FitsKind T k) (sym e) (g.0 (f.0 h)), λ p. f.1 (g.1 (subst (FitsKind T k) e p)))

-- no type is looked up where there are no parts
pub leaf_any : (T U : Table) (k : Kind) (v : Tree) (b : List ℕ) → ¬ HasParts v → SpellsAs T k v b → SpellsAs U k v b
leaf_any T U k v b n (of_bool p) = of_bool p
leaf_any T U k v b n (of_int p) = of_int p
leaf_any T U k v b n (of_uint p) = of_uint p
leaf_any T U k v b n (of_float p) = of_float p
leaf_any T U k v b n (of_complex p q) = of_complex p q
leaf_any T U k v b n (of_nil p) = of_nil p
leaf_any T U k v b n (of_bytes p) = of_bytes p
leaf_any T U k v b n (of_text p) = of_text p
leaf_any T U k v b n (of_opaque p) = of_opaque p
leaf_any T U k v b n _ = absurd (n tt)

-- the kind of a value without parts
abbrev IsLeafKind : Tree → Kind → Type 0
IsLeafKind (Tree.bool x) k = k ≡ kind.Basic basic.Bool
IsLeafKind (Tree.int i) k = k ≡ kind.Basic basic.Int
IsLeafKind (Tree.uint n) k = k ≡ kind.Basic basic.Uint
IsLeafKind (Tree.float p) k = k ≡ kind.Basic basic.Float
IsLeafKind (Tree.complex p q) k = k ≡ kind.Basic basic.Complex
IsLeafKind Tree.nil k = k ≡ kind.Basic basic.Interface
IsLeafKind (Tree.bytes s) k = k ≡ kind.Basic basic.Bytes
IsLeafKind (Tree.text s) k = k ≡ kind.Basic basic.Str
IsLeafKind _ k = Unit {0}

leaf_kind : {T : Table} {k : Kind} {v : Tree} {b : List ℕ} → SpellsAs T k v b → IsLeafKind v k
leaf_kind (of_opaque p) = tt
leaf_kind (of_slice p ps) = tt
leaf_kind (of_array m p ps) = tt
leaf_kind (of_map p ps) = tt
leaf_kind (of_struct ps) = tt
leaf_kind _ = refl

fitted : {T : Table} {k : Kind} {v : Tree} {b : List ℕ} → SpellsAs T k v b → FitsKind T k v
fitted {b = b} p = record { bytes = b; spelled = p }

module _ (T : Table) where
  pub fits_bool : (k : Kind) (x : Bool) → (k ≡ kind.Basic basic.Bool) ↔ FitsKind T k (Tree.bool x)
  fits_bool k x =
      (λ e. rw e (fitted (of_bool (unsigned_spelled (truth x) (small x)).spelled)), λ f. leaf_kind f.spelled)
    where
      small : (x : Bool) → truth x < 2 ^ 64
      small true = omega arith
      small false = omega arith

  pub fits_uint : (k : Kind) (n : ℕ) → n < 2 ^ 64 → (k ≡ kind.Basic basic.Uint) ↔ FitsKind T k (Tree.uint n)
  fits_uint k n l = (λ e. rw e (fitted (of_uint (unsigned_spelled n l).spelled)), λ f. leaf_kind f.spelled)

  pub fits_int : (k : Kind) (i : ℤ) → FitsSigned w64 i → (k ≡ kind.Basic basic.Int) ↔ FitsKind T k (Tree.int i)
  fits_int k i l = (λ e. rw e (fitted (of_int (signed_spelled i l).spelled)), λ f. leaf_kind f.spelled)

  pub fits_float : (k : Kind) (p : ℕ) → p < 2 ^ 64 → (k ≡ kind.Basic basic.Float) ↔ FitsKind T k (Tree.float p)
  fits_float k p l = (λ e. rw e (fitted (of_float (pattern_spelled p l).spelled)), λ f. leaf_kind f.spelled)

  pub fits_complex : (k : Kind) (p q : ℕ) → p < 2 ^ 64 → q < 2 ^ 64 → (k ≡ kind.Basic basic.Complex)
      ↔ FitsKind T k (Tree.complex p q)
  fits_complex k p q l m = (
    λ e. rw e (fitted (of_complex (pattern_spelled p l).spelled (pattern_spelled q m).spelled)),
    λ f. leaf_kind f.spelled,
  )

  pub fits_nil : (k : Kind) → (k ≡ kind.Basic basic.Interface) ↔ FitsKind T k Tree.nil
  fits_nil k = (λ e. rw e (fitted (of_nil (unsigned_spelled 0 (omega arith)).spelled)), λ f. leaf_kind f.spelled)

  pub fits_bytes : (k : Kind) (s : List ℕ) → length s < 2 ^ 64 → (k ≡ kind.Basic basic.Bytes)
      ↔ FitsKind T k (Tree.bytes s)
  fits_bytes k s l = (λ e. rw e (fitted (of_bytes (unsigned_spelled (length s) l).spelled)), λ f. leaf_kind f.spelled)

  pub fits_text : (k : Kind) (s : List ℕ) → length s < 2 ^ 64 → (k ≡ kind.Basic basic.Str) ↔ FitsKind T k (Tree.text s)
  fits_text k s l = (λ e. rw e (fitted (of_text (unsigned_spelled (length s) l).spelled)), λ f. leaf_kind f.spelled)

  pub fits_opaque : (k : Kind) (m : Marshal) (s : List ℕ) → length s < 2 ^ 64 → k ≡ kind.Opaque m
      → FitsKind T k (Tree.opaque s)
  fits_opaque k m s l e = rw e (fitted (of_opaque (unsigned_spelled (length s) l).spelled))
