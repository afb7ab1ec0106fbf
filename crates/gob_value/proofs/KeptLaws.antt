-- What a tidy struct drops is spelled with a byte 0 in front.
use Rattle.std.proofs.Common.{rules, ◌≡◌, ◌≢◌, ℕ, ◌+◌, List, [], ◌∷◌, ◌++◌, length, Some, drop, arith, refl, sym, ap}
use Rattle.std.proofs.Common.{◌∙◌, subst, length-drop}
use Rattle.std.specs.Prelude.{slice_get}
use Rattle.std.proofs.lemmas.List.{get_or-drop}
use Rattle.std.proofs.lemmas.Option.{slice_get_within, slice_get_read, get_or_from_slice_get}
use Rattle.gob_num.specs.Unsigned.{IsUnsigned, short}
use Rattle.gob_num.specs.Signed.{not_negative}
use Rattle.gob_num.specs.Pattern.{IsPattern}
use Rattle.gob_num.proofs.PublicLaws.{unsigned_unique, pattern_unique}
use Rattle.gob_types.specs.declared.basic.Basic.{Basic}
use Rattle.gob_types.specs.declared.basic.Basic.TheVariants as basic
use Rattle.gob_types.specs.declared.kind.Kind.{Kind}
use Rattle.gob_types.specs.declared.kind.Kind.TheVariants as kind
use Rattle.gob_types.specs.Table.{Table}
use Rattle.gob_value.specs.Tree.{Tree}
use Rattle.gob_value.specs.Spelling.{SpellsAs, of_bool, of_int, of_uint, of_float, of_complex, of_nil, of_bytes}
use Rattle.gob_value.specs.Spelling.{of_text, of_slice}
use Rattle.gob_value.specs.Tidy.{IsZero, of_bool as zero_bool, of_int as zero_int, of_uint as zero_uint}
use Rattle.gob_value.specs.Tidy.{of_float as zero_float, of_complex as zero_complex, of_bytes as zero_bytes}
use Rattle.gob_value.specs.Tidy.{of_text as zero_text, IsDropped, zero_basic, empty_slice}
use Rattle.gob_value.specs.Machine.Begins.{BeginsKept}

-- the one spelling of the number 0, and of the pattern 0
none_spelled : {bytes : List ℕ} → IsUnsigned 0 bytes → bytes ≡ 0 ∷ []
none_spelled p = unsigned_unique p (short (omega arith))

no_pattern : IsPattern 0 (0 ∷ [])
no_pattern = record {
  digits = 0 ∷ 0 ∷ 0 ∷ 0 ∷ 0 ∷ 0 ∷ 0 ∷ 0 ∷ [];
  eight = record { eight = refl; bytes = search rules; value = refl };
  spelled = short (omega arith);
}

pattern_spelled : {bytes : List ℕ} → IsPattern 0 bytes → bytes ≡ 0 ∷ []
pattern_spelled p = pattern_unique p no_pattern

-- a byte 0, and what is behind it
record HasZero (bytes : List ℕ) : Type 0 where
  more : List ℕ
  whole : bytes ≡ 0 ∷ more

in_prefix : {bytes : List ℕ} (more : List ℕ) → bytes ≡ 0 ∷ [] → HasZero (bytes ++ more)
in_prefix more e = record { more = more; whole = ap (λ l. l ++ more) e }

alone : {bytes : List ℕ} → bytes ≡ 0 ∷ [] → HasZero bytes
alone e = record { more = []; whole = e }

zero_prefix : {T : Table} {b : Basic} {v : Tree} {bytes : List ℕ} → IsZero v → SpellsAs T (kind.Basic b) v bytes
    → HasZero bytes
zero_prefix zero_bool (of_bool s) = alone (none_spelled s)
zero_prefix zero_int (of_int (not_negative s)) = alone (none_spelled s)
zero_prefix zero_uint (of_uint s) = alone (none_spelled s)
zero_prefix zero_float (of_float s) = alone (pattern_spelled s)
zero_prefix zero_complex (of_complex {c = c} s t) = in_prefix c (pattern_spelled s)
zero_prefix zero_bytes (of_bytes s) = in_prefix [] (none_spelled s)
zero_prefix zero_text (of_text s) = in_prefix [] (none_spelled s)

dropped_prefix : {T : Table} {k : Kind} {v : Tree} {bytes : List ℕ} → IsDropped k v → SpellsAs T k v bytes
    → HasZero bytes
dropped_prefix (zero_basic z) s = zero_prefix z s
dropped_prefix empty_slice (of_slice {b = b} s p) = in_prefix b (none_spelled s)

-- a complex number has two
complex_prefix : {T : Table} {v : Tree} {bytes : List ℕ} → IsDropped (kind.Basic basic.Complex) v
    → SpellsAs T (kind.Basic basic.Complex) v bytes → bytes ≡ 0 ∷ 0 ∷ []
complex_prefix (zero_basic z) s = inside z s
  where
    inside : {T : Table} {v : Tree} {bytes : List ℕ} → IsZero v → SpellsAs T (kind.Basic basic.Complex) v bytes
        → bytes ≡ 0 ∷ 0 ∷ []
    inside zero_complex (of_complex {b = b} {c = c} s t) =
        ap (λ l. l ++ c) (pattern_spelled s) ∙ ap (λ l. 0 ∷ l) (pattern_spelled t)
    inside _ s = elim s [ ]

-- what stands behind a place
stands_at : (body : List ℕ) (at i : ℕ) → slice_get (drop at body) i ≡ Some 0 → slice_get body (at + i) ≡ Some 0
stands_at body at i e =
    let within = slice_get_within (drop at body) i 0 e in
    slice_get_read body (length body) (at + i) 0 refl (omega (arith, length-drop at body))
    (sym (sym (get_or-drop at body i 0) ∙ get_or_from_slice_get (drop at body) i 0 0 e))

-- a byte that isn't 0 tells that the value is kept
pub kept_at : (k : Kind) (body : List ℕ) (at : ℕ) → slice_get body at ≢ Some 0 → BeginsKept k (drop at body)
kept_at k body at other T v bytes rest s e d =
    let prefix = dropped_prefix d s in
    let first : slice_get (drop at body) 0 ≡ Some 0 =
    ap (λ l. slice_get l 0) (e ∙ ap (λ l. l ++ rest) prefix.whole) in
    let here : at + 0 ≡ at = omega arith in
    other (subst (λ n. slice_get body n ≡ Some 0) here (stands_at body at 0 first))

pub complex_kept_at : (body : List ℕ) (at : ℕ) → slice_get body (at + 1) ≢ Some 0
    → BeginsKept (kind.Basic basic.Complex) (drop at body)
complex_kept_at body at other T v bytes rest s e d =
    let second : slice_get (drop at body) 1 ≡ Some 0 =
    ap (λ l. slice_get l 1) (e ∙ ap (λ l. l ++ rest) (complex_prefix d s)) in
    other (stands_at body at 1 second)

-- an interface's value is kept
pub nil_kept : (piece : List ℕ) → BeginsKept (kind.Basic basic.Interface) piece
nil_kept piece T v bytes rest (of_nil s) e (zero_basic z) = elim z [ ]
