-- What is read where a value without parts stands: that value. Where something else is, no such value stands.
use Rattle.std.proofs.Common.{◌≡◌, ℕ, ℤ, ◌^◌, ◌<◌, Bool, true, false, List, ◌∷◌, ◌++◌, refl, sym, ap, subst, ◌∙◌}
use Rattle.std.proofs.Common.{arith, w64, codes, Ok}
use Rattle.std.specs.Prelude.{FitsSigned}
use Rattle.std.specs.Str.{is_utf8}
use Rattle.std.proofs.lemmas.Fmt.{decimal_injective, signed_decimal_injective}
use Rattle.std.proofs.lemmas.Int.{ints}
use Rattle.hex.specs.Hex.{IsBytes, decode_of}
use Rattle.hex.proofs.HexLemmas.{decode_of-encode_lower}
use Rattle.json.specs.Token.{Token}
use Rattle.serde_json.specs.Data.{Data}
use Rattle.gob_num.proofs.PublicLaws.{unsigned_fits, signed_fits, pattern_fits}
use Rattle.gob_types.specs.declared.id.TypeId.{TypeId}
use Rattle.gob_types.specs.declared.basic.Basic.{Basic}
use Rattle.gob_types.specs.declared.basic.Basic.TheVariants as basic
use Rattle.gob_types.specs.declared.kind.Kind.TheVariants as kind
use Rattle.gob_types.specs.Table.{Table}
use Rattle.gob_value.specs.Bytes.{HoldsBytes}
use Rattle.gob_value.specs.Spelling.{SpellsAs, of_bool, of_float, of_complex, of_nil, of_bytes}
use Rattle.gob_value.specs.Spelling.{of_text}
use Rattle.gob_value.specs.Spelling as spells
use Rattle.gob_value.specs.Tree.{Tree}
use Rattle.gob_json.specs.Json.{value_json, natural_json, integer_json, hex_json, text_json}
use Rattle.gob_json.specs.Json.{pattern_json, pair_json}
use Rattle.gob_lines.specs.Numbers.{IsBasicJson, as_shown, of_int, of_uint, IsInteger, integer_number, integer_text}
use Rattle.gob_lines.specs.Numbers.{IsNatural, ReadsSome, natural_number, natural_text}
use Rattle.gob_lines.specs.Reads.{Reads}
use Rattle.gob_lines.proofs.UniqueLaws.{J, behind, first, text_of, integer_token, pattern_said}
use Rattle.gob_lines.proofs.UniqueLaws.{are_bytes, decoded, text_as}

-- ---- numbers

pub natural_it : (m n : ℕ) (old new rest : List Token) → m < 2 ^ 64 → n < 2 ^ 64 → Reads (natural_json m) old new
    → Reads (natural_json n) old rest → (m ≡ n) × (new ≡ rest)
natural_it m n old new rest small fits got said =
    let h = sym got ∙ said in
    (decimal_injective m n small fits (ap (λ l. text_of (first l)) h), ap behind h)

pub integer_it : (i j : ℤ) (old new rest : List Token) → FitsSigned w64 i → FitsSigned w64 j
    → Reads (integer_json i) old new → Reads (integer_json j) old rest → (i ≡ j) × (new ≡ rest)
integer_it i j old new rest f g got said =
    let e = ap (λ (l : List Token). l ++ new) (integer_token i) ∙ sym got ∙ said
    ∙ sym (ap (λ (l : List Token). l ++ rest) (integer_token j)) in (
      signed_decimal_injective i j (omega (arith, ints)) (omega (arith, ints)) (ap (λ l. text_of (first l)) e),
      ap behind e,
    )

-- whichever way it stands
pub natural_once : {m n : ℕ} {j k : Data} (old new rest : List Token) → m < 2 ^ 64 → n < 2 ^ 64 → IsNatural m j
    → Reads j old new → IsNatural n k → Reads k old rest → (m ≡ n) × (new ≡ rest)
natural_once {m = m} {n = n} old new rest small fits natural_number got natural_number said =
    natural_it m n old new rest small fits got said
natural_once {m = m} {n = n} old new rest small fits natural_text got natural_text said =
    let h = sym got ∙ said in
    (decimal_injective m n small fits (ap (λ l. text_of (first l)) h), ap behind h)
natural_once old new rest small fits natural_number got natural_text said =
    let h = ap first (sym got ∙ said) in absurd (cc)
natural_once old new rest small fits natural_text got natural_number said =
    let h = ap first (sym got ∙ said) in absurd (cc)

pub naturals_once : {m n : ℕ} {old new rest : List Token} → m < 2 ^ 64 → n < 2 ^ 64 → ReadsSome (IsNatural m) old new
    → ReadsSome (IsNatural n) old rest → (m ≡ n) × (new ≡ rest)
naturals_once {old = old} {new = new} {rest = rest} small fits got said =
    natural_once old new rest small fits got.is got.reads said.is said.reads

pub integer_once : {i l : ℤ} {j k : Data} (old new rest : List Token) → FitsSigned w64 i → FitsSigned w64 l
    → IsInteger i j → Reads j old new → IsInteger l k → Reads k old rest → (i ≡ l) × (new ≡ rest)
integer_once {i = i} {l = l} old new rest f g integer_number got integer_number said =
    integer_it i l old new rest f g got said
integer_once {i = i} {l = l} old new rest f g integer_text got integer_text said =
    let h = sym got ∙ said in (
      signed_decimal_injective i l (omega (arith, ints)) (omega (arith, ints)) (ap (λ l. text_of (first l)) h),
      ap behind h,
    )
integer_once {i = i} old new rest f g integer_number got integer_text said =
    let h = ap first (ap (λ (l : List Token). l ++ new) (integer_token i) ∙ sym got ∙ said) in absurd (cc)
integer_once {l = l} old new rest f g integer_text got integer_number said =
    let h = ap first (ap (λ (m : List Token). m ++ rest) (integer_token l) ∙ sym said ∙ got) in absurd (cc)

pub pattern_it : (p q : ℕ) (old new rest : List Token) → p < 2 ^ 64 → q < 2 ^ 64 → Reads (pattern_json p) old new
    → Reads (pattern_json q) old rest → (p ≡ q) × (new ≡ rest)
pattern_it p q old new rest f g got said =
    let r = pattern_said p q new rest f g (sym got ∙ said) in
    (r.value, r.rest)

pub hex_it : (s t text : List ℕ) (old new rest : List Token) → decode_of text ≡ Ok s → old ≡ Token.string text ∷ new
    → IsBytes t → Reads (hex_json t) old rest → (s ≡ t) × (new ≡ rest)
hex_it s t text old new rest got e bytes said =
    let h = sym e ∙ said in (
      ap decoded (sym got ∙ ap decode_of (ap (λ l. text_of (first l)) h) ∙ decode_of-encode_lower t bytes),
      ap behind h,
    )

-- what is told of the bytes that were read where these are the tokens
abbrev pub OnlyHex : List ℕ → (old new : List Token) → Type 0
OnlyHex s old new = (b : List ℕ) (rest : List Token) → IsBytes b → Reads (hex_json b) old rest
    → (s ≡ b) × (new ≡ rest)

-- ---- a complex number

-- what stands behind the bracket
pub complex_stands : (p q : ℕ) (old m rest : List Token) → old ≡ Token.begin_array ∷ m
    → Reads (pair_json (pattern_json p) (pattern_json q)) old rest
    → m ≡ J (pattern_json p) ++ (J (pattern_json q) ++ Token.end_array ∷ rest)
complex_stands p q old m rest e said = ap behind (sym e ∙ said)

pub complex_it : (p q real imaginary : ℕ) (old m n o new rest : List Token) → p < 2 ^ 64 → q < 2 ^ 64 → real < 2 ^ 64
    → imaginary < 2 ^ 64 → old ≡ Token.begin_array ∷ m → Reads (pattern_json real) m n
    → Reads (pattern_json imaginary) n o → o ≡ Token.end_array ∷ new
    → Reads (pair_json (pattern_json p) (pattern_json q)) old rest
    → (◌≡◌ {A = ℕ × ℕ} (real, imaginary) (p, q)) × (new ≡ rest)
complex_it p q real imaginary old m n o new rest f g f' g' e one two end said =
    let one_part = pattern_it real p m n (J (pattern_json q) ++ Token.end_array ∷ rest) f' f one
    (complex_stands p q old m rest e said) in
    let second = pattern_it imaginary q n o (Token.end_array ∷ rest) g' g two one_part.1 in (
      ap (λ (a : ℕ). (a, imaginary)) one_part.0 ∙ ap (λ (a : ℕ). (p, a)) second.0,
      ap behind (sym end ∙ second.1),
    )

-- behind the first of the two
pub imaginary_stands : (p q real : ℕ) (old m n rest : List Token) → p < 2 ^ 64 → real < 2 ^ 64
    → old ≡ Token.begin_array ∷ m → Reads (pattern_json real) m n
    → Reads (pair_json (pattern_json p) (pattern_json q)) old rest
    → Reads (pattern_json q) n (Token.end_array ∷ rest)
imaginary_stands p q real old m n rest f f' e one said =
    (pattern_it real p m n (J (pattern_json q) ++ Token.end_array ∷ rest) f' f one
    (complex_stands p q old m rest e said)).1

pub complex_end_stands : (p q real imaginary : ℕ) (old m n o rest : List Token) → p < 2 ^ 64 → q < 2 ^ 64
    → real < 2 ^ 64 → imaginary < 2 ^ 64 → old ≡ Token.begin_array ∷ m → Reads (pattern_json real) m n
    → Reads (pattern_json imaginary) n o → Reads (pair_json (pattern_json p) (pattern_json q)) old rest
    → o ≡ Token.end_array ∷ rest
complex_end_stands p q real imaginary old m n o rest f g f' g' e one two said =
    (pattern_it imaginary q n o (Token.end_array ∷ rest) g' g two
    (imaginary_stands p q real old m n rest f f' e one said)).1

-- ---- bytes in an object: of an opaque value, and of text that is no UTF-8

pub object_it : (k : List ℕ) (s t : List ℕ) (old m n o new rest : List Token) → OnlyHex s n o → IsBytes t
    → old ≡ Token.begin_object ∷ m → m ≡ Token.key k ∷ n → o ≡ Token.end_object ∷ new
    → old ≡ Token.begin_object ∷ (Token.key k ∷ (J (hex_json t) ++ Token.end_object ∷ rest))
    → (s ≡ t) × (new ≡ rest)
object_it k s t old m n o new rest only bytes e e' end said =
    let r = only t (Token.end_object ∷ rest) bytes (ap behind (sym e' ∙ ap behind (sym e ∙ said))) in
    (r.0, ap behind (sym end ∙ r.1))

-- ---- text

text_string_at : (u : Bool) (b s : List ℕ) (old new rest : List Token) → old ≡ Token.string s ∷ new
    → Reads (text_as u b) old rest → (s ≡ b) × (new ≡ rest)
text_string_at true b s old new rest e said =
    let h = sym e ∙ said in
    (ap (λ l. text_of (first l)) h, ap behind h)
text_string_at false b s old new rest e said = let h = ap first (sym e ∙ said) in absurd (cc)

pub text_string : (b s : List ℕ) (old new rest : List Token) → old ≡ Token.string s ∷ new
    → Reads (text_json b) old rest → (s ≡ b) × (new ≡ rest)
text_string b s old new rest e said = text_string_at (is_utf8 b) b s old new rest e said

text_object_at : (u : Bool) (b : List ℕ) (old new rest : List Token) → old ≡ Token.begin_object ∷ new
    → Reads (text_as u b) old rest
    → (u ≡ false) × (old ≡ Token.begin_object ∷ (Token.key (codes "hex") ∷ (J (hex_json b) ++ Token.end_object ∷ rest)))
text_object_at true b old new rest e said = let h = ap first (sym e ∙ said) in absurd (cc)
text_object_at false b old new rest e said = (refl, said)

pub text_object : (b : List ℕ) (old new rest : List Token) → old ≡ Token.begin_object ∷ new
    → Reads (text_json b) old rest
    → (is_utf8 b ≡ false)
    × (old ≡ Token.begin_object ∷ (Token.key (codes "hex") ∷ (J (hex_json b) ++ Token.end_object ∷ rest)))
text_object b old new rest e said = text_object_at (is_utf8 b) b old new rest e said

-- ---- by the basic kind of the type

abbrev pub IsItsBasic : (v w : Tree) → (new rest : List Token) → Type 0
IsItsBasic v w new rest = (v ≡ w) × (new ≡ rest)

-- how a number stands
int_json : {T : Table} {t : TypeId} {i : ℤ} {j : Data} → IsBasicJson T t (Tree.int i) j → IsInteger i j
int_json as_shown = integer_number
int_json (of_int h) = h

uint_json : {T : Table} {t : TypeId} {n : ℕ} {j : Data} → IsBasicJson T t (Tree.uint n) j → IsNatural n j
uint_json as_shown = natural_number
uint_json (of_uint h) = h

-- and all else
abbrev IsNoNumber : Tree → Type 0
IsNoNumber (Tree.int i) = ⊥
IsNoNumber (Tree.uint n) = ⊥
IsNoNumber _ = Unit {0}

shown_json : {T : Table} {t : TypeId} {v : Tree} {j : Data} → IsNoNumber v → IsBasicJson T t v j
    → j ≡ value_json T t v
shown_json other as_shown = refl
shown_json other (of_int h) = absurd other
shown_json other (of_uint h) = absurd other

no_number : {T : Table} {k : Basic} {v : Tree} {b : List ℕ} → (k ≡ basic.Int → ⊥) → (k ≡ basic.Uint → ⊥)
    → SpellsAs T (kind.Basic k) v b → IsNoNumber v
no_number int uint (of_bool p) = tt
no_number int uint (spells.of_int p) = absurd (int refl)
no_number int uint (spells.of_uint p) = absurd (uint refl)
no_number int uint (of_float p) = tt
no_number int uint (of_complex p q) = tt
no_number int uint (of_nil p) = tt
no_number int uint (of_bytes p) = tt
no_number int uint (of_text p) = tt

-- what is no number stands as `show` prints it
pub stands_shown : {T : Table} {t : TypeId} {k : Basic} {v : Tree} {j : Data} {b : List ℕ} (old rest : List Token)
    → (k ≡ basic.Int → ⊥) → (k ≡ basic.Uint → ⊥) → SpellsAs T (kind.Basic k) v b → IsBasicJson T t v j
    → Reads j old rest → Reads (value_json T t v) old rest
stands_shown old rest int uint spelled is said =
    subst (λ (d : Data). Reads d old rest) (shown_json (no_number int uint spelled) is) said

pub int_it : {T : Table} {v : Tree} {j k : Data} {b : List ℕ} (t : TypeId) (i : ℤ) (old new rest : List Token)
    → FitsSigned w64 i → IsInteger i k → Reads k old new → SpellsAs T (kind.Basic basic.Int) v b
    → IsBasicJson T t v j → Reads j old rest → IsItsBasic (Tree.int i) v new rest
int_it t i old new rest f is got (spells.of_int q) stands said =
    let r = integer_once old new rest f (signed_fits q) is got (int_json stands) said in
    (ap Tree.int r.0, r.1)

pub no_int : {T : Table} {v : Tree} {j : Data} {b : List ℕ} (t : TypeId) (old rest : List Token)
    → ((i : ℤ) (j : Data) (rest : List Token) → FitsSigned w64 i → IsInteger i j → Reads j old rest → ⊥)
    → SpellsAs T (kind.Basic basic.Int) v b → IsBasicJson T t v j → Reads j old rest → ⊥
no_int {j = j} t old rest none (spells.of_int {i = i} q) stands said = none i j rest (signed_fits q)
    (int_json stands) said

pub uint_it : {T : Table} {v : Tree} {j k : Data} {b : List ℕ} (t : TypeId) (n : ℕ) (old new rest : List Token)
    → n < 2 ^ 64 → IsNatural n k → Reads k old new → SpellsAs T (kind.Basic basic.Uint) v b
    → IsBasicJson T t v j → Reads j old rest → IsItsBasic (Tree.uint n) v new rest
uint_it t n old new rest f is got (spells.of_uint q) stands said =
    let r = natural_once old new rest f (unsigned_fits q) is got (uint_json stands) said in
    (ap Tree.uint r.0, r.1)

pub no_uint : {T : Table} {v : Tree} {j : Data} {b : List ℕ} (t : TypeId) (old rest : List Token)
    → ((n : ℕ) (j : Data) (rest : List Token) → n < 2 ^ 64 → IsNatural n j → Reads j old rest → ⊥)
    → SpellsAs T (kind.Basic basic.Uint) v b → IsBasicJson T t v j → Reads j old rest → ⊥
no_uint {j = j} t old rest none (spells.of_uint {n = m} q) stands said = none m j rest (unsigned_fits q)
    (uint_json stands) said

pub float_it : {T : Table} {v : Tree} {b : List ℕ} (t : TypeId) (p : ℕ) (old new rest : List Token) → p < 2 ^ 64
    → Reads (pattern_json p) old new → SpellsAs T (kind.Basic basic.Float) v b → Reads (value_json T t v) old rest
    → IsItsBasic (Tree.float p) v new rest
float_it t p old new rest f got (of_float {p = q} h) said =
    let r = pattern_it p q old new rest f (pattern_fits h) got said in
    (ap Tree.float r.0, r.1)

pub no_float : {T : Table} {v : Tree} {b : List ℕ} (t : TypeId) (old rest : List Token)
    → ((p : ℕ) (rest : List Token) → p < 2 ^ 64 → Reads (pattern_json p) old rest → ⊥)
    → SpellsAs T (kind.Basic basic.Float) v b → Reads (value_json T t v) old rest → ⊥
no_float t old rest none (of_float {p = q} h) said = none q rest (pattern_fits h) said

pub bytes_it : {T : Table} {v : Tree} {b : List ℕ} (t : TypeId) (s : List ℕ) (old new rest : List Token)
    → OnlyHex s old new → SpellsAs T (kind.Basic basic.Bytes) v b → HoldsBytes v
    → Reads (value_json T t v) old rest → IsItsBasic (Tree.bytes s) v new rest
bytes_it t s old new rest only (of_bytes {s = u} q) holds said =
    let r = only u rest (are_bytes u holds) said in
    (ap Tree.bytes r.0, r.1)

pub no_bytes : {T : Table} {v : Tree} {b : List ℕ} (t : TypeId) (old rest : List Token)
    → ((s : List ℕ) (rest : List Token) → IsBytes s → Reads (hex_json s) old rest → ⊥)
    → SpellsAs T (kind.Basic basic.Bytes) v b → HoldsBytes v → Reads (value_json T t v) old rest → ⊥
no_bytes t old rest none (of_bytes {s = u} q) holds said = none u rest (are_bytes u holds) said

-- what a call answers that reads text
abbrev pub ReadsText : (read : List ℕ → List Token → Type 0) → (old : List Token) → Type 0
ReadsText read old = (s : List ℕ) (rest : List Token) → IsBytes s → Reads (text_json s) old rest → read s rest

pub str_it : {T : Table} {v : Tree} {b : List ℕ} (t : TypeId) (s : List ℕ) (old new rest : List Token)
    → ReadsText (λ u rest. (s ≡ u) × (new ≡ rest)) old → SpellsAs T (kind.Basic basic.Str) v b → HoldsBytes v
    → Reads (value_json T t v) old rest → IsItsBasic (Tree.text s) v new rest
str_it t s old new rest whole (of_text {s = u} q) holds said =
    let r = whole u rest (are_bytes u holds) said in
    (ap Tree.text r.0, r.1)

pub no_str : {T : Table} {v : Tree} {b : List ℕ} {f : Type 0} (t : TypeId) (old rest : List Token)
    → ReadsText (λ u rest. f) old → SpellsAs T (kind.Basic basic.Str) v b → HoldsBytes v
    → Reads (value_json T t v) old rest → f
no_str t old rest whole (of_text {s = u} q) holds said = whole u rest (are_bytes u holds) said

abbrev pub ReadsComplex : (read : ℕ → ℕ → List Token → Type 0) → (old : List Token) → Type 0
ReadsComplex read old = (p q : ℕ) (rest : List Token) → p < 2 ^ 64 → q < 2 ^ 64
    → Reads (pair_json (pattern_json p) (pattern_json q)) old rest → read p q rest

pub complex_value_it : {T : Table} {v : Tree} {b : List ℕ} (t : TypeId) (p q : ℕ) (old new rest : List Token)
    → ReadsComplex (λ m n rest. (◌≡◌ {A = ℕ × ℕ} (p, q) (m, n)) × (new ≡ rest)) old
    → SpellsAs T (kind.Basic basic.Complex) v b
    → Reads (value_json T t v) old rest → IsItsBasic (Tree.complex p q) v new rest
complex_value_it t p q old new rest whole (of_complex {p = m} {q = n} f g) said =
    let r = whole m n rest (pattern_fits f) (pattern_fits g) said in
    (ap (λ (k : ℕ × ℕ). Tree.complex k.0 k.1) r.0, r.1)

pub no_complex : {T : Table} {v : Tree} {b : List ℕ} {f : Type 0} (t : TypeId) (old rest : List Token)
    → ReadsComplex (λ m n rest. f) old → SpellsAs T (kind.Basic basic.Complex) v b
    → Reads (value_json T t v) old rest → f
no_complex t old rest whole (of_complex {p = m} {q = n} g h) said =
    whole m n rest (pattern_fits g) (pattern_fits h) said
