-- Values that are written by a style which has the pairs of a map as an array, whatever its keys are.
use Rattle.std.proofs.Common.{◌≡◌, ◌≢◌, ◌∙◌, ℕ, List, Bool, true, false, Option, Some, None, ap, not, refl, subst, sym}
use Rattle.std.specs.Prelude.{if◌then◌else◌, MatchBool, get_or}
use Rattle.json.specs.Json.{Json}
use Rattle.json.specs.Json as json
use Rattle.gob_types.specs.declared.id.TypeId.{TypeId}
use Rattle.gob_types.specs.declared.kind.Kind.{Kind}
use Rattle.gob_types.specs.declared.kind.Kind.TheVariants as kinds
use Rattle.gob_types.specs.Table.{Table, shape_of}
use Rattle.gob_value.specs.Spelling.{SpellsAs, of_array, of_bool, of_bytes, of_complex, of_float, of_int, of_map}
use Rattle.gob_value.specs.Spelling.{of_nil, of_opaque, of_slice, of_struct, of_text, of_type, of_uint}
use Rattle.gob_value.specs.Top.{SpellsTop, at_once, tagged}
use Rattle.gob_value.specs.Tree.{Pairs, Tree}
use Rattle.gob_value.specs.Tree as Value
use Rattle.gob_tape.specs.declared.kind.ValueKind.TheVariants as kind
use Rattle.gob_tape.specs.Seeing.{kind_of}
use Rattle.gob_json_writer.proofs.TapeLaws.{as_pairs}
use Rattle.gob_plain.specs.declared.style.Style.{Style}
use Rattle.gob_plain.specs.BodyText.{AreNotListed, IsNoMap}
use Rattle.gob_plain.specs.OpaqueText.{content_in}
use Rattle.gob_plain.specs.Filled.{IsListed, SaysInWith, SaysListed, SaysValueWith, listed_pairs, pairs_of, shown}
use Rattle.gob_plain.specs.Filled.{shown_pairs, within}
use Rattle.gob_plain.specs.HeldPlain.{SaysFilled, says_filled}
use Rattle.gob_filled.specs.Filled.{Filled}
use Rattle.gob_json.specs.Json.{element_type, key_type}
use Rattle.gob_plain.proofs.NilLaws.{pairs_as_much, says_as_much}

-- ---- which are

pub listed_so : (style : Style) (v : Tree) {b : Bool} → style.pairs ≡ b
    → listed_pairs style v ≡ (if b then pairs_of v else None)
listed_so style v e = ap (λ (b : Bool). if b then pairs_of v else None) e

none_listed : (style : Style) (v : Tree) → pairs_of v ≡ None → listed_pairs style v ≡ None
none_listed style v none = by style.pairs
  where
    by : (b : Bool) → (if b then pairs_of v else None) ≡ None
    by true = none
    by false = refl

other_kind : (v : Tree) → kind.Pairs ≢ kind_of v → pairs_of v ≡ None
other_kind (Value.bool b) n = refl
other_kind (Value.int i) n = refl
other_kind (Value.uint m) n = refl
other_kind (Value.float p) n = refl
other_kind (Value.complex p q) n = refl
other_kind (Value.bytes b) n = refl
other_kind (Value.text b) n = refl
other_kind Value.nil n = refl
other_kind (Value.many vs) n = refl
other_kind (Value.pairs ps) n = absurd (n refl)
other_kind (Value.fields fs) n = refl
other_kind (Value.opaque b) n = refl

pub not_listed : (style : Style) (v : Tree) → kind.Pairs ≢ kind_of v → listed_pairs style v ≡ None
not_listed style v n = none_listed style v (other_kind v n)

pub listed_where : (style : Style) (v : Tree) → kind.Pairs ≡ kind_of v
    → MatchBool style.pairs (IsListed style v) (listed_pairs style v ≡ None)
listed_where style v e = by style.pairs refl
  where
    by : (b : Bool) → style.pairs ≡ b → MatchBool b (IsListed style v) (listed_pairs style v ≡ None)
    by true on = let a = as_pairs v e in (a.parts, a.is, on)
    by false off = listed_so style v off

pub listed_is : (style : Style) {v : Tree} (l : IsListed style v) → listed_pairs style v ≡ Some l.0
listed_is style {v = v} l = listed_so style v l.2 ∙ ap pairs_of l.1

-- ---- by a type

no_pairs : {T : Table} {k : Kind} {v : Tree} {b : List ℕ} → SpellsAs T k v b → ((d e : TypeId) → k ≢ kinds.Map d e)
    → pairs_of v ≡ None
no_pairs (of_bool u) n = refl
no_pairs (of_int u) n = refl
no_pairs (of_uint u) n = refl
no_pairs (of_float u) n = refl
no_pairs (of_complex u w) n = refl
no_pairs (of_nil u) n = refl
no_pairs (of_bytes u) n = refl
no_pairs (of_text u) n = refl
no_pairs (of_opaque u) n = refl
no_pairs (of_slice u p) n = refl
no_pairs (of_array c u p) n = refl
no_pairs (of_map {k = d} {e = e} u p) n = absurd (n d e refl)
no_pairs (of_struct p) n = refl

pub no_map : {T : Table} {t : TypeId} (style : Style) → IsNoMap (shape_of T t) → AreNotListed style T t
no_map {T = T} {t = t} style n v b s = none_listed style v (top s)
  where
    top : {b : List ℕ} → SpellsTop T t v b → pairs_of v ≡ None
    top (at_once known is (of_type {s = s} shape p)) = no_pairs p (λ d e. n s d e shape)
    top (tagged known is (of_type {s = s} shape p)) = no_pairs p (λ d e. n s d e shape)

pub as_ever : (style : Style) {T : Table} {t : TypeId} → style.pairs ≡ false → AreNotListed style T t
as_ever style e v b s = listed_so style v e

pub no_true : (b : Bool) → not b ≡ true → b ≡ false
no_true false e = refl
no_true true e = sym e

-- ---- what is said of them

pub said_as_ever : (N : ℕ → Json → Type 0) (style : Style) (T : Table) (t : TypeId) (v : Tree) (j : Json)
    → listed_pairs style v ≡ None → SaysInWith N style T t v j → SaysValueWith N style T t v j
said_as_ever N style T t v j e s = subst (λ (o : Option Pairs). SaysListed o N style T t v j) (sym e) s

-- nils that say no less
pub value_as_much : (M N : ℕ → Json → Type 0) (style : Style) (T : Table) (t : TypeId) (v : Tree) (j : Json)
    → ((k : ℕ) (i : Json) → M k i → N k i) → SaysValueWith M style T t v j → SaysValueWith N style T t v j
value_as_much M N style T t v j f = by (listed_pairs style v)
  where
    by : (o : Option Pairs) → SaysListed o M style T t v j → SaysListed o N style T t v j
    by None s = says_as_much M N (content_in style) T t (shown style T t v) j (λ k l i p. f k i p) s
    by (Some ps) s =
        let k = key_type (shape_of T t) in
        let e = element_type (shape_of T t) in (
          s.0,
          s.1,
          pairs_as_much M N (content_in style) T k e (shown_pairs style T k e ps) s.0 (λ k l i p. f k i p) s.2,
        )

-- what is said of a value that is no such map, in the style of what a value holds
pub said_as_held : (tags : Bool) (style : Style) (T : Table) (t : TypeId) {w : Filled} {j : Json}
    → AreNotListed style T t → SaysFilled tags (within style) T t w j → SaysFilled tags style T t w j
said_as_held tags style T t none (says_filled {v = v} {b = b} {said = said} {j = j} spells n s) =
    says_filled spells n
    (said_as_ever (λ k i. i ≡ get_or said k json.null) style T t v j (none v b spells) s)
