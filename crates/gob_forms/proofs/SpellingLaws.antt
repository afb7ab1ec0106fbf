-- The characters of a text, one by one.
use Rattle.std.proofs.Common.{◌≡◌, ℕ, ◌<◌, Bool, true, false, ◌&&◌, nat_lt, List, [], ◌∷◌, ◌++◌, length}
use Rattle.std.proofs.Common.{Some, None, refl, sym, ap, ◌∙◌, arith, if◌then◌else◌, append_assoc, length-append}
use Rattle.std.proofs.Math.Utf8.{encode, encodes}
use Rattle.std.proofs.lemmas.Bool.Decides.{nat_tests}
use Rattle.std.proofs.lemmas.List.{append-nil}
use Rattle.std.proofs.lemmas.List.Folds.{list_all-append}
use Rattle.std.proofs.lemmas.Str.{IsUtf8-from_is_utf8, encode_same, encodes-chars, is_utf8-from_IsUtf8, len_utf8_bounds}
use Rattle.std.proofs.lemmas.Str.{length-encode, length-le-encodes}
use Rattle.std.specs.List.{list_all}
use Rattle.std.specs.Str.{IsUtf8, chars, is_utf8}
use Rattle.gob_forms.specs.Spellings.{of_characters}

abbrev pub is_small : ℕ → Bool
is_small c = nat_lt c 256

-- what is known of the two tests
characters_as : (text : List ℕ) (u s : Bool) → is_utf8 text ≡ u → list_all is_small (chars text) ≡ s
    → of_characters text ≡ (if u && s then Some (chars text) else None)
characters_as text u s e d = rw (e, d) refl

pub not_utf8 : (text : List ℕ) → ¬ IsUtf8 text → of_characters text ≡ None
not_utf8 text other = (elim (is_utf8 text) as (λ u. is_utf8 text ≡ u → of_characters text ≡ None) [
  | true ↦ λ e. absurd (other (IsUtf8-from_is_utf8 text e))
  | false ↦ λ e. characters_as text false (list_all is_small (chars text)) e refl
]) refl

-- these bytes are the characters that were gone over, and this text spells those that are left
pub record AreFirst (text before rest : List ℕ) : Type 0 where
  pub left : List ℕ
  pub whole : chars text ≡ before ++ left
  pub spelled : encodes left ≡ rest
  pub small : list_all is_small before ≡ true

pub none_yet : {text before rest : List ℕ} → before ≡ [] → rest ≡ text → IsUtf8 text → AreFirst text before rest
none_yet {text = text} e d u = record {
  left = chars text;
  whole = ap (λ x. x ++ chars text) (sym e);
  spelled = encodes-chars text u ∙ sym d;
  small = rw e refl;
}

-- the next one
left_behind : (left behind : List ℕ) (c : ℕ) → encodes left ≡ encode c ++ behind
    → (later : List ℕ) × (left ≡ c ∷ later) × (encodes later ≡ behind)
left_behind [] behind c e =
    let size : 0 ≡ length (encode c ++ behind) = ap length e in
    absurd (omega (arith, size, length-append (encode c) behind, length-encode c, (len_utf8_bounds c).0))
left_behind (d ∷ later) behind c e =
    let s = encode_same d c (encodes later) behind e in
    (later, ap (λ x. x ∷ later) s.0, s.1)

pub one_more : {text before rest : List ℕ} (behind : List ℕ) (c : ℕ) → AreFirst text before rest
    → rest ≡ encode c ++ behind → c < 256 → AreFirst text (before ++ c ∷ []) behind
one_more {before = before} behind c f e few =
    let l = left_behind f.left behind c (f.spelled ∙ e) in record {
      left = l.0;
      whole = f.whole ∙ ap (λ x. before ++ x) l.1 ∙ sym (append_assoc before (c ∷ []) l.0);
      spelled = l.2;
      small = (let test : nat_lt c 256 ≡ true = grind (arith, nat_tests) in
          rw (list_all-append, f.small, test) refl);
    }

pub too_large : {text before rest : List ℕ} (behind : List ℕ) (c : ℕ) → IsUtf8 text → AreFirst text before rest
    → rest ≡ encode c ++ behind → (c < 256 → ⊥) → of_characters text ≡ None
too_large {text = text} {before = before} behind c u f e large =
    let l = left_behind f.left behind c (f.spelled ∙ e) in
    let test : nat_lt c 256 ≡ false = grind (arith, nat_tests) in
    let all : list_all is_small (chars text) ≡ false =
    rw (f.whole ∙ ap (λ x. before ++ x) l.1, list_all-append, f.small, test) refl in
    characters_as text true false (is_utf8-from_IsUtf8 text u) all

length_zero : (xs : List ℕ) → length xs ≡ 0 → xs ≡ []
length_zero [] e = refl
length_zero (x ∷ xs) e = absurd (omega arith)

pub all_kept : {text before rest : List ℕ} → IsUtf8 text → AreFirst text before rest → length rest ≡ 0
    → of_characters text ≡ Some before
all_kept {text = text} {before = before} {rest = rest} u f empty =
    let none : f.left ≡ [] = length_zero f.left (let k : length (encodes f.left) ≡ length rest = ap length f.spelled in
    omega (arith, length-le-encodes f.left)) in
    let same : chars text ≡ before = f.whole ∙ ap (λ x. before ++ x) none ∙ append-nil before in
    characters_as text true true (is_utf8-from_IsUtf8 text u) (rw same f.small) ∙ ap (λ x. Some x) same
