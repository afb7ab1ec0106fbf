-- The compact text of JSON has no line feed.
use Rattle.std.proofs.Common.{◌≡◌, ℕ, zero, suc, pos, negsuc, ◌+◌, ◌/◌, ◌%◌, ◌<◌, ◌==◌, Bool, true, false, cond, eqb}
use Rattle.std.proofs.Common.{◌&&◌, List, [], ◌∷◌, ◌++◌, refl, subst, sym, arith, inl, inr, nat_lt}
use Rattle.std.specs.Prelude.{⊤, decimal}
use Rattle.std.specs.Fmt.{digit_glyph, digits, digits_onto}
use Rattle.std.proofs.lemmas.Bool.{and_parts, cases_lt, cases_eq, ne_eqb}
use Rattle.json.specs.Print.{escape, escape_byte, quoted}
use Rattle.json.proofs.Printed.Strings.{escape_byte_plain}
use Rattle.serde_json.specs.Data.{Num, unsigned, negative, float, Data, null, boolean, number, string, array, object}
use Rattle.serde_json.specs.Data.{Items, no_items, item, Members, no_members, member}
use Rattle.serde_json.specs.Written.{comma_if, compact_text, items_text, members_text, number_text}

abbrev pub HasNoFeed : List ℕ → Type 0
HasNoFeed [] = ⊤
HasNoFeed (x ∷ xs) = (eqb x 10 ≡ false) × HasNoFeed xs

both : (a b : List ℕ) → HasNoFeed a → HasNoFeed b → HasNoFeed (a ++ b)
both [] b p q = q
both (x ∷ a) b p q = (p.0, both a b p.1 q)

chosen : (c : Bool) (a b : List ℕ) → HasNoFeed a → HasNoFeed b → HasNoFeed (cond c a b)
chosen true a b p q = p
chosen false a b p q = q

-- ---- digits

glyph_at : (c : Bool) (d : ℕ) → eqb (cond c (48 + d) (87 + d)) 10 ≡ false
glyph_at true d = ne_eqb (48 + d) 10 (λ e. omega (arith, e))
glyph_at false d = ne_eqb (87 + d) 10 (λ e. omega (arith, e))

glyph : (d : ℕ) → eqb (digit_glyph false d) 10 ≡ false
glyph d = glyph_at (nat_lt d 10) d

digits_of : (k n : ℕ) (acc : List ℕ) → HasNoFeed acc → HasNoFeed (digits_onto k 10 false n acc)
digits_of zero n acc h = h
digits_of (suc k) n acc h =
    chosen (n / 10 == 0) _ _ (glyph (n % 10), h)
    (digits_of k (n / 10) (digit_glyph false (n % 10) ∷ acc) (glyph (n % 10), h))

in_decimal : (n : ℕ) → HasNoFeed (decimal n)
unfolding digits
in_decimal n = digits_of 64 n [] tt

in_number : (n : Num) → HasNoFeed (number_text n)
in_number (unsigned n) = in_decimal n
in_number (negative (pos n)) = in_decimal n
in_number (negative (negsuc n)) = (refl, in_decimal (suc n))
in_number (float x) = tt

-- ---- strings

abbrev has_none : List ℕ → Bool
has_none [] = true
has_none (x ∷ xs) = eqb (cond (eqb x 10) 1 0) 0 && has_none xs

not_there : (c : Bool) → eqb (cond c 1 0) 0 ≡ true → c ≡ false
not_there true e = grind arith
not_there false e = refl

none_there : (xs : List ℕ) → has_none xs ≡ true → HasNoFeed xs
none_there [] e = tt
none_there (x ∷ xs) e = let p = and_parts _ _ e in (not_there (eqb x 10) p.0, none_there xs p.1)

-- the escapes of the bytes below n have none
abbrev escapes_below : ℕ → Bool
escapes_below zero = true
escapes_below (suc n) = has_none (escape_byte n) && escapes_below n

escape_below : (n : ℕ) → escapes_below n ≡ true → (x : ℕ) → x < n → has_none (escape_byte x) ≡ true
escape_below zero e x h = absurd (omega arith)
escape_below (suc n) e x h =
    let p = and_parts _ _ e in
    elim (cases_eq x n) [ inl same ↦ rw same p.0 | inr other ↦ escape_below n p.1 x (omega arith) ]

all_below : escapes_below 128 ≡ true
unfolding escape_byte
all_below = refl

in_escape_byte : (x : ℕ) → HasNoFeed (escape_byte x)
in_escape_byte x = elim (cases_lt x 128) [
  | inl small ↦ none_there (escape_byte x) (escape_below 128 all_below x small)
  | inr big ↦ subst HasNoFeed (sym (escape_byte_plain x (λ e. omega arith) (λ e. omega arith) (omega arith)))
      (ne_eqb x 10 (λ e. omega arith), tt)
]

in_escape : (s : List ℕ) → HasNoFeed (escape s)
in_escape [] = tt
in_escape (x ∷ s) = both (escape_byte x) (escape s) (in_escape_byte x) (in_escape s)

in_quoted : (s : List ℕ) → HasNoFeed (quoted s)
in_quoted s = (refl, both (escape s) (34 ∷ []) (in_escape s) (refl, tt))

-- ---- values

in_comma : (later : Bool) → HasNoFeed (comma_if later)
in_comma true = (refl, tt)
in_comma false = tt

mutual
  pub in_text : (d : Data) → HasNoFeed (compact_text d)
  in_text null = (refl, (refl, (refl, (refl, tt))))
  in_text (boolean true) = (refl, (refl, (refl, (refl, tt))))
  in_text (boolean false) = (refl, (refl, (refl, (refl, (refl, tt)))))
  in_text (number n) = in_number n
  in_text (string s) = in_quoted s
  in_text (array ds) = (refl, in_items false ds)
  in_text (object ms) = (refl, in_members false ms)

  in_items : (later : Bool) (ds : Items) → HasNoFeed (items_text later ds)
  in_items later no_items = (refl, tt)
  in_items later (item d ds) =
      both (comma_if later) (compact_text d ++ items_text true ds) (in_comma later)
      (both (compact_text d) (items_text true ds) (in_text d) (in_items true ds))

  in_members : (later : Bool) (ms : Members) → HasNoFeed (members_text later ms)
  in_members later no_members = (refl, tt)
  in_members later (member k d ms) =
      both (comma_if later) (quoted k ++ 58 ∷ (compact_text d ++ members_text true ms)) (in_comma later)
      (both (quoted k) (58 ∷ (compact_text d ++ members_text true ms)) (in_quoted k)
      (refl, both (compact_text d) (members_text true ms) (in_text d) (in_members true ms)))
