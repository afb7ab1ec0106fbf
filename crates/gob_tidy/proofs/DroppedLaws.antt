-- What a tidy struct drops is spelled by bytes 0.
use Rattle.std.proofs.Common.{rules, ◌≡◌, ◌≢◌, ℕ, zero, suc, ◌+◌, ◌≤◌, List, [], ◌∷◌, Some, false, drop}
use Rattle.std.proofs.Common.{arith, refl, sym, ap, ◌∙◌, is_some, true≢false}
use Rattle.std.proofs.lemmas.Option.{slice_get_within}
use Rattle.std.specs.Prelude.{slice_get}
use Rattle.gob_num.specs.Pattern.{IsPattern}
use Rattle.gob_num.specs.Signed.{not_negative}
use Rattle.gob_num.specs.Unsigned.{IsUnsigned, short}
use Rattle.gob_types.specs.declared.basic.Basic.{Basic}
use Rattle.gob_types.specs.declared.basic.Basic.TheVariants as basic
use Rattle.gob_types.specs.declared.id.TypeId.{TypeId}
use Rattle.gob_types.specs.declared.kind.Kind.{Kind}
use Rattle.gob_types.specs.declared.kind.Kind.TheVariants as kind
use Rattle.gob_types.specs.Table.{Table}
use Rattle.gob_types.proofs.PublicLaws.{some_injective}
use Rattle.gob_value.specs.Machine.Begins.{BeginsKept, HoldsBetween}
use Rattle.gob_value.specs.Spelling.{SpellsAs, of_bool, of_int, of_uint, of_float, of_complex, of_bytes, of_text}
use Rattle.gob_value.specs.Spelling.{of_slice, no_element}
use Rattle.gob_value.specs.Tidy.{IsZero, IsDropped, zero_basic, empty_slice}
use Rattle.gob_value.specs.Tidy as tidy
use Rattle.gob_value.specs.Tree.{Tree, no_tree, depth}
use Rattle.gob_tidy.specs.Machine.Tidying.{BeginsDropped, BeginsZero}

no_number : IsUnsigned 0 (0 ∷ [])
no_number = short (omega arith)

no_pattern : IsPattern 0 (0 ∷ [])
no_pattern = record {
  digits = 0 ∷ 0 ∷ 0 ∷ 0 ∷ 0 ∷ 0 ∷ 0 ∷ 0 ∷ [];
  eight = record { eight = refl; bytes = search rules; value = refl };
  spelled = no_number;
}

module _ (T : Table) where
  zeroed : {b : Basic} (v : Tree) → SpellsAs T (kind.Basic b) v (0 ∷ []) → IsZero v → depth v ≤ 1 → (x y : List ℕ)
      → BeginsZero x y → BeginsDropped T (kind.Basic b) x y
  zeroed v s z l x y e = record {
    value = v;
    bytes = 0 ∷ [];
    spelled = s;
    shallow = l;
    dropped = zero_basic z;
    whole = e;
  }

  -- one of the types whose zero is one byte
  pub zero_dropped : (b : Basic) → b ≢ basic.Interface → b ≢ basic.Complex → (x y : List ℕ) → BeginsZero x y
      → BeginsDropped T (kind.Basic b) x y
  zero_dropped basic.Bool i c = zeroed (Tree.bool false) (of_bool no_number) tidy.of_bool (omega arith)
  zero_dropped basic.Int i c = zeroed (Tree.int _) (of_int (not_negative no_number)) tidy.of_int (omega arith)
  zero_dropped basic.Uint i c = zeroed (Tree.uint 0) (of_uint no_number) tidy.of_uint (omega arith)
  zero_dropped basic.Float i c = zeroed (Tree.float 0) (of_float no_pattern) tidy.of_float (omega arith)
  zero_dropped basic.Bytes i c = zeroed (Tree.bytes []) (of_bytes no_number) tidy.of_bytes (omega arith)
  zero_dropped basic.Str i c = zeroed (Tree.text []) (of_text no_number) tidy.of_text (omega arith)
  zero_dropped basic.Complex i c = absurd (c refl)
  zero_dropped basic.Interface i c = absurd (i refl)

  pub zeros_dropped : (x y z : List ℕ) → BeginsZero x y → BeginsZero y z
      → BeginsDropped T (kind.Basic basic.Complex) x z
  zeros_dropped x y z e f = record {
    value = Tree.complex 0 0;
    bytes = 0 ∷ 0 ∷ [];
    spelled = of_complex no_pattern no_pattern;
    shallow = omega arith;
    dropped = zero_basic tidy.of_complex;
    whole = e ∙ ap (λ l. 0 ∷ l) f;
  }

  pub slice_dropped : (e : TypeId) (x y : List ℕ) → BeginsZero x y → BeginsDropped T (kind.Slice e) x y
  slice_dropped e x y s = record {
    value = Tree.many no_tree;
    bytes = 0 ∷ [];
    spelled = of_slice no_number no_element;
    shallow = omega arith;
    dropped = empty_slice;
    whole = s;
  }

-- ---- bytes

-- what is left of a list at an item of it
drop_at : {A : Type 0} (xs : List A) (n : ℕ) (x : A) → slice_get xs n ≡ Some x → drop n xs ≡ x ∷ drop (n + 1) xs
drop_at {A = A} xs n x there = let e : suc n ≡ n + 1 = omega arith in by xs n x there ∙ ap (λ m. x ∷ drop m xs) e
  where
    by : {A : Type 0} (xs : List A) (n : ℕ) (x : A) → slice_get xs n ≡ Some x → drop n xs ≡ x ∷ drop (suc n) xs
    by [] n x there = absurd (true≢false (sym (ap is_some there)))
    by (y ∷ ys) zero x there = ap (λ z. z ∷ ys) (some_injective there)
    by (y ∷ ys) (suc n) x there = by ys n x there

pub zero_stands : (body : List ℕ) (at : ℕ) → slice_get body at ≡ Some 0 → HoldsBetween BeginsZero body at (at + 1)
zero_stands body at there =
    let within = slice_get_within body at 0 there in
    record { order = omega arith; inside = omega arith; begins = drop_at body at 0 there }

-- ---- kept values

-- of a kind that has no such value all is kept
abbrev pub IsNoDropped : Kind → Type 0
IsNoDropped (kind.Basic b) = ⊥
IsNoDropped (kind.Slice e) = ⊥
IsNoDropped _ = Unit {0}

pub all_kept : (k : Kind) (piece : List ℕ) → IsNoDropped k → BeginsKept k piece
all_kept (kind.Basic b) piece n = absurd n
all_kept (kind.Slice e) piece n = absurd n
all_kept _ piece n = λ T v bytes rest s e d. elim d [ ]
