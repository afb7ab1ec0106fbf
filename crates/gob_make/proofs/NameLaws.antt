-- Fields that are found by their names.
use Rattle.std.proofs.Common.{◌≡◌, ◌<◌, ◌+◌, ◌++◌, ◌∙◌, ◌∷◌, [], ℕ, zero, suc, List, length, get_or, drop, Bool, true}
use Rattle.std.proofs.Common.{false, IsTrue, Option, Some, None, String, if◌then◌else◌, arith, refl, sym, ap, subst}
use Rattle.std.proofs.Common.{inl, inr, codes}
use Rattle.std.specs.Prelude.{◌↔◌, IfSome}
use Rattle.std.specs.BTreeMap.{BTreeMap, get_by_text}
use Rattle.std.specs.Cmp.Lexicographic.{slice_cmp}
use Rattle.std.specs.Map.{lookup, update}
use Rattle.std.specs.Ordering.{is_eq, nat_cmp}
use Rattle.std.specs.Str.{IsUtf8, bytes_eq, is_utf8}
use Rattle.std.specs.String.{string_bytes}
use Rattle.std.proofs.lemmas.Bool.{cases_lt, false≢true}
use Rattle.std.proofs.lemmas.List.{at_drop_more}
use Rattle.std.proofs.lemmas.Option.{get_or_from_slice_get, none-some}
use Rattle.std.proofs.lemmas.Slice.Eq.{bytes_eq-Decides}
use Rattle.std.proofs.lemmas.Str.{IsUtf8-from_is_utf8, is_utf8-from_IsUtf8}
use Rattle.hex.specs.Hex.{encode_lower}
use Rattle.gob_types.specs.declared.kind.Field.{Field}
use Rattle.gob_types.proofs.PublicLaws.{some_injective}
use Rattle.gob_plain.specs.Plain.{name_text}
use Rattle.gob_make.specs.Names.{KnowsNames, number_named}
use Rattle.gob_make.specs.Plain.{HasName, IsUnknown}

-- ---- the two forms of a name

pub utf8_name : (b : List ℕ) → IsUtf8 b → name_text b ≡ b
utf8_name b h = rw (is_utf8-from_IsUtf8 b h) refl

chosen_by : (test : Bool) (d e : List ℕ) → (test ≡ true → ⊥) → (if test then d else e) ≡ e
chosen_by true d e h = absurd (h refl)
chosen_by false d e h = refl

pub bytes_name : (b : List ℕ) → (IsUtf8 b → ⊥) → name_text b ≡ codes "0x" ++ encode_lower b
bytes_name b h = chosen_by (is_utf8 b) b (codes "0x" ++ encode_lower b) (λ e. h (IsUtf8-from_is_utf8 b e))

-- ---- one by one

-- the field at this number has another name, as those before it
pub none_so_far : (types : List Field) (number : ℕ) (f : Field) (name : List ℕ) (is : Bool) → f ≡ get_or types number f
    → IsTrue is ↔ (name_text f.name ≡ name) → is ≡ false → ((k : ℕ) → k < number → ¬ HasName types k name)
    → (k : ℕ) → k < number + 1 → HasName types k name → ⊥
none_so_far types number f name is at iff other before k l h = elim (cases_lt k number) [
  | inl less ↦ before k less h
  | inr up ↦
      let same : k ≡ number = omega arith in
      let found : h.0 ≡ f = sym (get_or_from_slice_get types k h.0 f h.1.field) ∙ ap (λ n. get_or types n f) same
      ∙ sym at in
      false≢true (sym other ∙ iff.1 (ap (λ (e : Field). name_text e.name) (sym found) ∙ h.1.named))
]

-- ---- by a map

drop-length : (types : List Field) → drop (length types) types ≡ []
drop-length [] = refl
drop-length (e ∷ es) = drop-length es

-- behind all fields none has a name, and none is known
pub names_none : {Y : Type 0} (types : List Field) (n : ℕ) (m : BTreeMap (String Y) ℕ) → n ≡ length types
    → m.entries ≡ [] → KnowsNames types n m
names_none {Y} types n m past empty = record { each = each }
  where
    each : (name : List ℕ) → get_by_text m name ≡ number_named n (drop n types) name
    each name =
        ap (λ (es : List (String Y × ℕ)). lookup (λ k. is_eq (slice_cmp nat_cmp name (string_bytes k))) es) empty
        ∙ sym (ap (λ k. number_named n (drop k types) name) past
        ∙ ap (λ (es : List Field). number_named n es name) (drop-length types))

-- one more, in front of those that are known
pub names_more : {Y : Type 0} (types : List Field) (n i : ℕ) (e : Field) (text : List ℕ)
    (old new : BTreeMap (String Y) ℕ) → n ≡ i + 1 → i < length types → e ≡ get_or types i e → text ≡ name_text e.name
    → ((name : List ℕ) → get_by_text new name ≡ update bytes_eq (get_by_text old) text (Some i) name)
    → KnowsNames types n old → KnowsNames types i new
names_more types n i e text old new next within at is puts knows = record { each = each }
  where
    each : (name : List ℕ) → get_by_text new name ≡ number_named i (drop i types) name
    each name =
        let same = bytes_eq (name_text e.name) name in
        puts name ∙ ap (λ (t : List ℕ). if bytes_eq t name then Some i else get_by_text old name) is
        ∙ ap (λ (o : Option ℕ). if same then Some i else o) (knows.each name)
        ∙ ap (λ (m : ℕ). if same then Some i else number_named m (drop m types) name) next
        ∙ sym (at_drop_more (λ (es : List Field). number_named i es name) types i e within
        ∙ ap (λ (y : Field). number_named i (y ∷ drop (i + 1) types) name) (sym at))

-- where a field stands among these, whose first has this number
record Stands (n k : ℕ) (es : List Field) (name : List ℕ) : Type 0 where
  place : ℕ
  counted : k ≡ n + place
  has : HasName es place name

abbrev StandsFrom : ℕ → List Field → List ℕ → Option ℕ → Type 0
StandsFrom n es name (Some k) = Stands n k es name
StandsFrom n es name None = (place : ℕ) → ¬ HasName es place name

one_further : (n : ℕ) (e : Field) (es : List Field) (name : List ℕ) (r : Option ℕ)
    → bytes_eq (name_text e.name) name ≡ false → StandsFrom (n + 1) es name r → StandsFrom n (e ∷ es) name r
one_further n e es name (Some k) other h = record {
  place = suc h.place;
  counted = omega (arith, h.counted);
  has = (h.has.0, record { field = h.has.1.field; named = h.has.1.named });
}
one_further n e es name None other h = none
  where
    none : (place : ℕ) → ¬ HasName (e ∷ es) place name
    none zero = λ f. false≢true (sym other ∙ (bytes_eq-Decides (name_text e.name) name).1
        (ap (λ (x : Field). name_text x.name) (some_injective f.1.field) ∙ f.1.named))
    none (suc place) = λ f. h place (f.0, record { field = f.1.field; named = f.1.named })

stands_from : (n : ℕ) (es : List Field) (name : List ℕ) → StandsFrom n es name (number_named n es name)
stands_from n [] name = λ place f. none-some _ f.1.field
stands_from n (e ∷ es) name = by (bytes_eq (name_text e.name) name) refl (stands_from (n + 1) es name)
  where
    by : (b : Bool) → bytes_eq (name_text e.name) name ≡ b → StandsFrom (n + 1) es name (number_named (n + 1) es name)
        → StandsFrom n (e ∷ es) name (if b then Some n else number_named (n + 1) es name)
    by true same rest = record {
      place = zero;
      counted = omega arith;
      has = (e, record { field = refl; named = (bytes_eq-Decides (name_text e.name) name).0 same });
    }
    by false other rest = one_further n e es name (number_named (n + 1) es name) other rest

-- what the map found
pub found_named : (types : List Field) (name : List ℕ) (r : Option ℕ) → r ≡ number_named 0 types name
    → IfSome r (λ number. HasName types number name)
found_named types name r is = by r (subst (StandsFrom 0 types name) (sym is) (stands_from 0 types name))
  where
    by : (o : Option ℕ) → StandsFrom 0 types name o → IfSome o (λ number. HasName types number name)
    by (Some k) h =
        let same : h.place ≡ k = omega (arith, h.counted) in
        subst (λ (number : ℕ). HasName types number name) same h.has
    by None h = tt

pub none_named : (types : List Field) (name : List ℕ) (r : Option ℕ) → r ≡ number_named 0 types name → r ≡ None
    → IsUnknown types name
none_named types name r is none =
    let none_stands : (place : ℕ) → ¬ HasName types place name =
    subst (StandsFrom 0 types name) (sym is ∙ none) (stands_from 0 types name) in
    λ number e named. none_stands number (e, named)
