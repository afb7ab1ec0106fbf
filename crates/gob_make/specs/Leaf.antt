-- What plain JSON says of values without parts, and of names. (docs/FORMAT.md, Plain JSON as input.)
use Rattle.std.specs.Prelude.{◌≡◌, ◌<◌, ◌^◌, ◌++◌, ℕ, ℤ, List, Bool, true, false, IsTrue, Some, codes, slice_get}
use Rattle.std.specs.Prelude.{FitsSigned}
use Rattle.std.specs.Int.{w64}
use Rattle.std.specs.Fmt.{decimal, signed_decimal}
use Rattle.std.specs.List.{All}
use Rattle.std.specs.Float.{float_is_finite}
use Rattle.std.specs.Float.Ieee.{Float, binary64, to_bits}
use Rattle.ryu.specs.Parse.{parse_float}
use Rattle.json.specs.Json.{Json}
use Rattle.json.specs.Json as json
use Rattle.serde_json.specs.Written.{outline}
use Rattle.gob_types.specs.declared.basic.Basic.{Basic}
use Rattle.gob_types.specs.declared.basic.Basic.TheVariants as basic
use Rattle.gob_types.specs.declared.id.TypeId.{TypeId}
use Rattle.gob_types.specs.declared.kind.Field.{Field}
use Rattle.gob_types.specs.Table.{Table, basic_of}
use Rattle.gob_value.specs.Tree.{Tree}
use Rattle.gob_value.specs.Tree as Value
use Rattle.gob_json.specs.Json.{text_json}
use Rattle.gob_plain.specs.FloatText.{pointed}
use Rattle.gob_plain.specs.OpaqueText.{SaysBytes, SaysContent}
use Rattle.gob_plain.specs.Plain.{name_text}
use Rattle.gob_plain.specs.declared.opaque.Content.{Content}
use Rattle.gob_plain.specs.declared.opaque.Content.TheVariants as content

-- ---- floats

-- the 64 bits of the float that is nearest to a number in decimal, where that is finite, or of one that is named; of
-- those that are no number Go's own
pub data ReadsFloat : Json → ℕ → Type 0 where
  of_number : {text : List ℕ} {x : Float} → parse_float binary64 text ≡ Some x → float_is_finite x ≡ true
      → ReadsFloat (json.number text) (to_bits binary64 x)
  of_no_number : ReadsFloat (json.string (codes "NaN")) 9221120237041090561
  of_infinity : ReadsFloat (json.string (codes "Infinity")) 9218868437227405312
  of_negative_infinity : ReadsFloat (json.string (codes "-Infinity")) 18442240474082181120

-- ---- basic types

-- true and false; whole numbers of 64 bits, in the one way to write each; a pair of floats; base64 with padding; and a
-- string, or {"hex":..} of bytes that aren't UTF-8
pub data ReadsBasic : Basic → Json → Tree → Type 0 where
  of_bool : {x : Bool} → ReadsBasic basic.Bool (json.boolean x) (Value.bool x)
  of_int : {i : ℤ} → FitsSigned w64 i → ReadsBasic basic.Int (json.number (signed_decimal i)) (Value.int i)
  of_uint : {n : ℕ} → n < 2 ^ 64 → ReadsBasic basic.Uint (json.number (decimal n)) (Value.uint n)
  of_float : {j : Json} {p : ℕ} → ReadsFloat j p → ReadsBasic basic.Float j (Value.float p)
  of_complex : {a b : Json} {p q : ℕ} → ReadsFloat a p → ReadsFloat b q
      → ReadsBasic basic.Complex (json.array (json.item a (json.item b json.no_items))) (Value.complex p q)
  of_bytes : {j : Json} {b : List ℕ} → SaysBytes b j → ReadsBasic basic.Bytes j (Value.bytes b)
  of_text : {b : List ℕ} → ReadsBasic basic.Str (outline (text_json b)) (Value.text b)

-- ---- opaque types

-- the text without zeros at the end of the digits of a second
pub record IsTrimmed (text trimmed : List ℕ) : Type 0 where
  pub clock : List ℕ
  pub part : List ℕ
  pub zeros : List ℕ
  pub zone : List ℕ
  pub is : text ≡ clock ++ pointed (part ++ zeros) ++ zone
  pub are_zeros : All (λ digit. digit ≡ 48) zeros
  pub rest : trimmed ≡ clock ++ pointed part ++ zone

-- what is taken for this may be a time
abbrev pub may_be_time : Content → Bool
may_be_time content.Time = true
may_be_time content.TimeOrInt = true
may_be_time _ = false

-- the bytes have the JSON that is shown of them, but that there may be zeros at the end of the digits of a second where
-- they may be a time
pub data ReadsContent (c : Content) : Json → List ℕ → Type 0 where
  as_shown : {j : Json} {b : List ℕ} → SaysContent c b j → ReadsContent c j b
  with_zeros : {text trimmed b : List ℕ} → IsTrue (may_be_time c) → IsTrimmed text trimmed
      → SaysContent c b (json.string trimmed) → ReadsContent c (json.string text) b

-- ---- names

-- the name of a member is that of the field of this number, which is this
pub record IsNamed (types : List Field) (number : ℕ) (name : List ℕ) (e : Field) : Type 0 where
  pub field : slice_get types number ≡ Some e
  pub named : name_text e.name ≡ name

-- the name of a member is that of a key of this type: a text, or a whole number in the one way to write it
pub data ReadsKey (T : Table) (k : TypeId) : List ℕ → Tree → Type 0 where
  of_text : {b : List ℕ} → basic_of T k ≡ Some basic.Str → ReadsKey T k b (Value.text b)
  of_int : {i : ℤ} → basic_of T k ≡ Some basic.Int → FitsSigned w64 i → ReadsKey T k (signed_decimal i) (Value.int i)
  of_uint : {n : ℕ} → basic_of T k ≡ Some basic.Uint → n < 2 ^ 64 → ReadsKey T k (decimal n) (Value.uint n)
