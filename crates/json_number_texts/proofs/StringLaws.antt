-- Strings stay as they are.
use Rattle.std.proofs.Common.{◌≡◌, ℕ, zero, suc, ◌<◌, ◌≤◌, Bool, true, false, not, ◌&&◌, List, [], ◌∷◌, ◌++◌, refl}
use Rattle.std.proofs.Common.{sym, ap, ◌∙◌, arith, inl, inr, ◌⊎◌, append_assoc}
use Rattle.std.proofs.lemmas.Bool.{and_parts, cases_eq, cases_lt, ne_eqb, true≢false}
use Rattle.json.specs.Print.{escape, escape_byte, quoted}
use Rattle.json.proofs.Printed.Strings.{escape_byte_plain}
use Rattle.json_number_texts.specs.Texts.{after, is_edge, with_texts}
use Rattle.json_number_texts.specs.declared.place.Place.{Place}
use Rattle.json_number_texts.specs.declared.place.Place.TheVariants as place

abbrev is_inside : Place → Bool
is_inside place.InString = true
is_inside _ = false

-- from a place on the bytes have no edge, and behind them one stands in the string
abbrev is_kept : Place → List ℕ → Bool
is_kept p [] = is_inside p
is_kept p (x ∷ xs) = not (is_edge p x) && is_kept (after p x) xs

inside_is : (p : Place) → is_inside p ≡ true → p ≡ place.InString
inside_is place.InString e = refl
inside_is place.Outside e = absurd (true≢false (sym e))
inside_is place.InNumber e = absurd (true≢false (sym e))
inside_is place.BehindBackslash e = absurd (true≢false (sym e))

not_edge : (b : Bool) → not b ≡ true → b ≡ false
not_edge true e = sym e
not_edge false e = refl

kept_as_is : (e r : List ℕ) (p : Place) → is_kept p e ≡ true → with_texts p (e ++ r)
    ≡ e ++ with_texts place.InString r
kept_as_is [] r p k = ap (λ q. with_texts q r) (inside_is p k)
kept_as_is (x ∷ e) r p k =
    let h = and_parts _ _ k in
    rw (not_edge (is_edge p x) h.0) (ap (λ l. x ∷ l) (kept_as_is e r (after p x) h.1))

-- ---- the escape of each byte

abbrev kept_below : ℕ → Bool
kept_below zero = true
kept_below (suc n) = is_kept place.InString (escape_byte n) && kept_below n

kept_sound : (n : ℕ) → kept_below n ≡ true → (x : ℕ) → x < n → is_kept place.InString (escape_byte x) ≡ true
kept_sound zero e x h = absurd (omega arith)
kept_sound (suc n) e x h =
    let p = and_parts _ _ e in
    elim (cases_eq x n) [ inl same ↦ rw same p.0 | inr apart ↦ kept_sound n p.1 x (omega arith) ]

all_kept : kept_below 93 ≡ true
unfolding escape_byte
all_kept = refl

escape_kept : (x : ℕ) → is_kept place.InString (escape_byte x) ≡ true
escape_kept x = by (cases_lt x 93)
  where
    by : (x < 93) ⊎ (93 ≤ x) → is_kept place.InString (escape_byte x) ≡ true
    by (inl l) = kept_sound 93 all_kept x l
    by (inr l) =
        ap (is_kept place.InString) (escape_byte_plain x (λ e. omega arith) (λ e. omega arith) (omega arith))
        ∙ rw (ne_eqb x 34 (λ e. omega arith), ne_eqb x 92 (λ e. omega arith)) refl

string_goes_on : (s r : List ℕ) → with_texts place.InString (escape s ++ r) ≡ escape s ++ with_texts place.InString r
string_goes_on [] r = refl
string_goes_on (x ∷ s) r =
    ap (with_texts place.InString) (append_assoc (escape_byte x) (escape s) r)
    ∙ kept_as_is (escape_byte x) (escape s ++ r) place.InString (escape_kept x)
    ∙ ap (λ l. escape_byte x ++ l) (string_goes_on s r)
    ∙ sym (append_assoc (escape_byte x) (escape s) (with_texts place.InString r))

pub string_kept : (s r : List ℕ) → with_texts place.Outside (quoted s ++ r) ≡ quoted s ++ with_texts place.Outside r
string_kept s r =
    ap (λ l. 34 ∷ l) (ap (with_texts place.InString) (append_assoc (escape s) (34 ∷ []) r)
    ∙ string_goes_on s (34 ∷ r) ∙ sym (append_assoc (escape s) (34 ∷ []) (with_texts place.Outside r)))
