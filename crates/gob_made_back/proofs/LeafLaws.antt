-- Values without parts: what is printed of one is the JSON that it is read from, but for the digits of floats.
use Rattle.std.proofs.Common.{◌≡◌, ◌∙◌, ◌==◌, ◌+◌, ℕ, ℤ, pos, negsuc, List, Bool, true, false, cond}
use Rattle.std.proofs.Common.{Option, Some, None, T, codes, decimal, length, refl, sym, subst, true≢false}
use Rattle.std.specs.Prelude.{⊤, drop, from_bits, slice_index}
use Rattle.std.specs.Option.{option_and_then, option_map}
use Rattle.std.specs.Float.{float_is_finite}
use Rattle.std.specs.Float.Ieee.{Float, Format, binary64, fin, inf, nan, fits, of_bits, to_bits}
use Rattle.std.specs.Float.Numeral.{has_digits, minus, nearest_float, scan_numeral}
use Rattle.std.specs.Float.Parse.{begins_with, read_float, read_unsigned, sign_len}
use Rattle.std.specs.Fmt.{signed_decimal}
use Rattle.ryu.specs.Parse.{parse_float}
use Rattle.base64.specs.Engines.{standard}
use Rattle.base64.specs.GeneralPurpose.{encode_of}
use Rattle.json.specs.Json.{Json}
use Rattle.json.specs.Json as json
use Rattle.serde_json.specs.Written.{outline}
use Rattle.gob_types.specs.declared.basic.Basic.{Basic}
use Rattle.gob_types.specs.declared.basic.Basic.TheVariants as basic
use Rattle.gob_types.specs.declared.id.TypeId.{TypeId}
use Rattle.gob_types.specs.Table.{Table}
use Rattle.gob_types.proofs.PublicLaws.{some_injective}
use Rattle.gob_value.specs.Tree.{Tree}
use Rattle.gob_json.specs.Json.{integer_json, text_json}
use Rattle.gob_plain.specs.OpaqueText.{Takes}
use Rattle.gob_plain.specs.Plain.{Says, SaysFloat, SaysPattern}
use Rattle.gob_make.specs.Leaf.{ReadsBasic, ReadsFloat}
use Rattle.gob_make.specs.Leaf as leaf
use Rattle.gob_made_back.specs.Alike.{IsSameBasic, IsSameFloat}
use Rattle.gob_made_back.specs.Alike as alike
use lib.Ieee.Bits.{of_bits-to_bits}
use lib.Ieee.Fits.{inf-fits, nan-fits, round-fits}

-- ---- floats

-- the float that was read is one of the format
abbrev DoesFit : Format → Option (Float × ℕ) → Type 0
DoesFit f None = ⊤
DoesFit f (Some r) = T (fits f r.0)

-- a numeral or a word
either_fits : (f : Format) (negative : Bool) (x : Float) (n : ℕ) (digits long short none : Bool) → T (fits f x)
    → DoesFit f (cond digits (Some (x, n)) (cond long (Some (inf negative, 8)) (cond short (Some (inf negative, 3))
    (cond none (Some (nan, 3)) None))))
either_fits f negative x n true long short none h = h
either_fits f negative x n false true short none h = inf-fits f negative
either_fits f negative x n false false true none h = inf-fits f negative
either_fits f negative x n false false false true h = nan-fits f
either_fits f negative x n false false false false h = tt

unsigned_fits : (f : Format) (negative : Bool) (text : List ℕ) → DoesFit f (read_unsigned f negative text)
unsigned_fits f negative text =
    either_fits f negative (nearest_float f negative (scan_numeral text)) (scan_numeral text).len
    (has_digits (scan_numeral text)) (begins_with text (codes "infinity")) (begins_with text (codes "inf"))
    (begins_with text (codes "nan")) (round-fits f negative _ _)

behind_sign : (f : Format) (n : ℕ) (r : Option (Float × ℕ)) → DoesFit f r
    → DoesFit f (option_map (λ (p : Float × ℕ). (p.0, n + p.1)) r)
behind_sign f n None h = tt
behind_sign f n (Some r) h = h

float_fits : (f : Format) (text : List ℕ) → DoesFit f (read_float f text)
unfolding read_float
float_fits f text =
    behind_sign f (sign_len text) (read_unsigned f (slice_index text 0 == minus) (drop (sign_len text) text))
    (unsigned_fits f (slice_index text 0 == minus) (drop (sign_len text) text))

-- where all of the text was read
if_whole : (f : Format) (x y : Float) (b : Bool) → T (fits f y) → cond b (Some y) None ≡ Some x → T (fits f x)
if_whole f x y true h e = subst (λ z. T (fits f z)) (some_injective e) h
if_whole f x y false h e = let never : ⊥ = cc in absurd never

whole_fits : (f : Format) (n : ℕ) (x : Float) (r : Option (Float × ℕ)) → DoesFit f r
    → option_and_then (λ (p : Float × ℕ). cond (p.1 == n) (Some p.0) None) r ≡ Some x → T (fits f x)
whole_fits f n x None h e = let never : ⊥ = cc in absurd never
whole_fits f n x (Some r) h e = if_whole f x r.0 (r.1 == n) h e

-- a float that a text writes is that of its pattern
pub pattern_again : (text : List ℕ) (x : Float) → parse_float binary64 text ≡ Some x
    → from_bits binary64 (to_bits binary64 x) ≡ x
pattern_again text x e =
    of_bits-to_bits binary64 x
    (whole_fits binary64 (length text) x (read_float binary64 text) (float_fits binary64 text) e)

-- another number that is read as it
same_digits : (text : List ℕ) (x : Float) (k : Json) → parse_float binary64 text ≡ Some x → float_is_finite x ≡ true
    → SaysFloat x k → IsSameFloat (json.number text) k
unfolding float_is_finite
same_digits text nan k e f s = absurd (true≢false (sym f))
same_digits text (inf b) k e f s = absurd (true≢false (sym f))
same_digits text (fin b m d) k e f s =
    subst (λ i. IsSameFloat (json.number text) i) (sym s.1) (alike.same_number f e s.3 s.2)

of_no_number : from_bits binary64 9221120237041090561 ≡ nan
unfolding of_bits
of_no_number = refl

of_infinity : from_bits binary64 9218868437227405312 ≡ inf false
unfolding of_bits
of_infinity = refl

of_negative_infinity : from_bits binary64 18442240474082181120 ≡ inf true
unfolding of_bits
of_negative_infinity = refl

pub float_same : {j : Json} {p : ℕ} {k : Json} → ReadsFloat j p → SaysPattern p k → IsSameFloat j k
float_same {k = k} (leaf.of_number {text = text} {x = x} e f) s =
    same_digits text x k e f (subst (λ y. SaysFloat y k) (pattern_again text x e) s)
float_same {k = k} leaf.of_no_number s =
    subst (λ i. IsSameFloat (json.string (codes "NaN")) i) (sym (subst (λ y. SaysFloat y k) of_no_number s))
    alike.no_number
float_same {k = k} leaf.of_infinity s =
    subst (λ i. IsSameFloat (json.string (codes "Infinity")) i) (sym (subst (λ y. SaysFloat y k) of_infinity s))
    alike.infinity
float_same {k = k} leaf.of_negative_infinity s =
    subst (λ i. IsSameFloat (json.string (codes "-Infinity")) i)
    (sym (subst (λ y. SaysFloat y k) of_negative_infinity s)) alike.negative_infinity

-- ---- the others

pub integer_shown : (i : ℤ) → outline (integer_json i) ≡ json.number (signed_decimal i)
integer_shown (pos n) = refl
integer_shown (negsuc n) = refl

pub basic_same : {b : Basic} {j : Json} {v : Tree} (how : Takes) (T : Table) (t : TypeId) (k : Json)
    → ReadsBasic b j v → Says how T t v k → IsSameBasic b j k
basic_same how T t k (leaf.of_bool {x = x}) s =
    subst (λ i. IsSameBasic basic.Bool (json.boolean x) i) (sym s) alike.same_bool
basic_same how T t k (leaf.of_int {i = i} fits) s =
    subst (λ (l : Json). IsSameBasic basic.Int (json.number (signed_decimal i)) l) (sym (s ∙ integer_shown i))
    alike.same_int
basic_same how T t k (leaf.of_uint {n = n} small) s =
    subst (λ i. IsSameBasic basic.Uint (json.number (decimal n)) i) (sym s) alike.same_uint
basic_same how T t k (leaf.of_float r) s = alike.same_float (float_same r s)
basic_same how T t k (leaf.of_complex {a = a} {b = b} r q) s =
    subst (λ i. IsSameBasic basic.Complex (json.array (json.item a (json.item b json.no_items))) i) (sym s.2)
    (alike.same_complex (float_same r s.3) (float_same q s.4))
basic_same how T t k (leaf.of_bytes {b = b} r) s =
    subst (λ i. IsSameBasic basic.Bytes i k) (sym r)
    (subst (λ i. IsSameBasic basic.Bytes (json.string (encode_of standard b)) i) (sym s) alike.same_bytes)
basic_same how T t k (leaf.of_text {b = b}) s =
    subst (λ i. IsSameBasic basic.Str (outline (text_json b)) i) (sym s) (alike.same_text b)
