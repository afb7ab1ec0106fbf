-- One byte of a text that is shown.
use Rattle.std.proofs.Common.{◌≡◌, ℕ, zero, suc, ◌+◌, ◌<◌, ◌≤◌, Bool, true, false, cond, ◌&&◌, List, [], ◌∷◌, ◌++◌}
use Rattle.std.proofs.Common.{inl, inr, ◌⊎◌, refl, sym, ap, ◌∙◌, subst, arith, append_assoc, nat_lt}
use Rattle.std.proofs.Common.{◌==◌, nat_le, length, get_or, drop}
use Rattle.std.proofs.lemmas.Bool.{ne_eqb, eqb-true, lt-leb, lt-ltb, ltb-true, and_parts, and_from}
use Rattle.std.proofs.lemmas.Bool.{cases_Bool, true≢false}
use Rattle.std.proofs.lemmas.List.{append-nil, at_drop_more}
use Rattle.json_controls.specs.declared.held.HeldBack.{HeldBack}
use Rattle.json_controls.specs.declared.held.HeldBack.TheVariants as held
use Rattle.json_controls.specs.Controls.{held_bytes, is_control, code, begun, next, after, is_nothing, escape_of}
use Rattle.json_controls.specs.Controls.{AreBelowControls, emitted, shown, shown_text}

-- ---- bytes below 127

small_begun : (x : ℕ) → x < 127 → begun x ≡ held.Nothing
small_begun x h =
    rw (
      ne_eqb x 0xc2 (λ e. omega arith),
      ne_eqb x 0xd8 (λ e. omega arith),
      ne_eqb x 0xe2 (λ e. omega arith),
      ne_eqb x 0xef (λ e. omega arith),
    ) refl

small_control : (h : HeldBack) (x : ℕ) → x < 127 → is_control h x ≡ false
small_control held.Nothing x l = ne_eqb x 0x7f (λ e. omega arith)
small_control held.Latin x l = ap (λ b. b && nat_le x 0x9f) (lt-leb 0x80 x (omega arith))
small_control held.Arabic x l = ne_eqb x 0x9c (λ e. omega arith)
small_control held.General x l = refl
small_control held.Punctuation x l =
    rw (lt-leb 0x8b x (omega arith), lt-leb 0xa8 x (omega arith)) refl
small_control held.Isolates x l = ap (λ b. b && nat_le x 0xa9) (lt-leb 0xa6 x (omega arith))
small_control held.High x l = refl
small_control held.Forms x l = ne_eqb x 0xbf (λ e. omega arith)

small_next : (h : HeldBack) (x : ℕ) → x < 127 → next h x ≡ held.Nothing
small_next held.Nothing x l = small_begun x l
small_next held.Latin x l = refl
small_next held.Arabic x l = refl
small_next held.General x l = rw (ne_eqb x 0x80 (λ e. omega arith), ne_eqb x 0x81 (λ e. omega arith)) refl
small_next held.Punctuation x l = refl
small_next held.Isolates x l = refl
small_next held.High x l = rw (ne_eqb x 0xbb (λ e. omega arith)) refl
small_next held.Forms x l = refl

-- ---- the three ways of a byte

pub shown_control : (h : HeldBack) (x : ℕ) (r : List ℕ) → is_control h x ≡ true
    → shown h (x ∷ r) ≡ escape_of (code h x) ++ shown held.Nothing r
shown_control h x r e = rw e refl

pub shown_copied : (h : HeldBack) (x : ℕ) (r : List ℕ) → is_control h x ≡ false → next h x ≡ held.Nothing
    → shown h (x ∷ r) ≡ held_bytes h ++ (x ∷ shown held.Nothing r)
shown_copied h x r e n = rw (e, n) (append_assoc (held_bytes h) (x ∷ []) (shown held.Nothing r))

pub shown_held : (h : HeldBack) (x : ℕ) (r : List ℕ) → is_control h x ≡ false → is_nothing (next h x) ≡ false
    → shown h (x ∷ r) ≡ shown (next h x) r
shown_held h x r e n = rw (e, n) refl

pub small_shown : (h : HeldBack) (x : ℕ) (r : List ℕ) → x < 127 → shown h (x ∷ r) ≡ held_bytes h
    ++ (x ∷ shown held.Nothing r)
small_shown h x r l = shown_copied h x r (small_control h x l) (small_next h x l)

-- what is held back next are the bytes so far
held_begun : (x : ℕ) → is_nothing (begun x) ≡ false → held_bytes (begun x) ≡ x ∷ []
held_begun x n = by (cases_Bool (x == 0xc2)) (cases_Bool (x == 0xd8)) (cases_Bool (x == 0xe2)) (cases_Bool (x == 0xef))
  where
    by : ((x == 0xc2) ≡ true) ⊎ ((x == 0xc2) ≡ false) → ((x == 0xd8) ≡ true) ⊎ ((x == 0xd8) ≡ false)
        → ((x == 0xe2) ≡ true) ⊎ ((x == 0xe2) ≡ false) → ((x == 0xef) ≡ true) ⊎ ((x == 0xef) ≡ false)
        → held_bytes (begun x) ≡ x ∷ []
    by (inl a) b c d = rw a (ap (λ y. y ∷ []) (sym (eqb-true x 0xc2 a)))
    by (inr a) (inl b) c d = rw (a, b) (ap (λ y. y ∷ []) (sym (eqb-true x 0xd8 b)))
    by (inr a) (inr b) (inl c) d = rw (a, b, c) (ap (λ y. y ∷ []) (sym (eqb-true x 0xe2 c)))
    by (inr a) (inr b) (inr c) (inl d) = rw (a, b, c, d) (ap (λ y. y ∷ []) (sym (eqb-true x 0xef d)))
    by (inr a) (inr b) (inr c) (inr d) = absurd (true≢false (sym (rw (a, b, c, d) refl) ∙ n))

held_general : (x : ℕ) → is_nothing (next held.General x) ≡ false → held_bytes (next held.General x) ≡ 0xe2 ∷ x ∷ []
held_general x n = by (cases_Bool (x == 0x80)) (cases_Bool (x == 0x81))
  where
    by : ((x == 0x80) ≡ true) ⊎ ((x == 0x80) ≡ false) → ((x == 0x81) ≡ true) ⊎ ((x == 0x81) ≡ false)
        → held_bytes (next held.General x) ≡ 0xe2 ∷ x ∷ []
    by (inl a) b = rw a (ap (λ y. 0xe2 ∷ y ∷ []) (sym (eqb-true x 0x80 a)))
    by (inr a) (inl b) = rw (a, b) (ap (λ y. 0xe2 ∷ y ∷ []) (sym (eqb-true x 0x81 b)))
    by (inr a) (inr b) = absurd (true≢false (sym (rw (a, b) refl) ∙ n))

held_high : (x : ℕ) → is_nothing (next held.High x) ≡ false → held_bytes (next held.High x) ≡ 0xef ∷ x ∷ []
held_high x n = by (cases_Bool (x == 0xbb))
  where
    by : ((x == 0xbb) ≡ true) ⊎ ((x == 0xbb) ≡ false) → held_bytes (next held.High x) ≡ 0xef ∷ x ∷ []
    by (inl a) = rw a (ap (λ y. 0xef ∷ y ∷ []) (sym (eqb-true x 0xbb a)))
    by (inr a) = absurd (true≢false (sym (rw a refl) ∙ n))

pub next_bytes : (h : HeldBack) (x : ℕ) → is_nothing (next h x) ≡ false → held_bytes (next h x) ≡ held_bytes h ++ x ∷ []
next_bytes held.Nothing x n = held_begun x n
next_bytes held.Latin x n = absurd (true≢false n)
next_bytes held.Arabic x n = absurd (true≢false n)
next_bytes held.General x n = held_general x n
next_bytes held.Punctuation x n = absurd (true≢false n)
next_bytes held.Isolates x n = absurd (true≢false n)
next_bytes held.High x n = held_high x n
next_bytes held.Forms x n = absurd (true≢false n)

pub nothing_is : (h : HeldBack) → is_nothing h ≡ true → h ≡ held.Nothing
nothing_is held.Nothing e = refl
nothing_is held.Latin e = absurd (true≢false (sym e))
nothing_is held.Arabic e = absurd (true≢false (sym e))
nothing_is held.General e = absurd (true≢false (sym e))
nothing_is held.Punctuation e = absurd (true≢false (sym e))
nothing_is held.Isolates e = absurd (true≢false (sym e))
nothing_is held.High e = absurd (true≢false (sym e))
nothing_is held.Forms e = absurd (true≢false (sym e))

-- ---- lists of such bytes

abbrev pub are_small : List ℕ → Bool
are_small [] = true
are_small (x ∷ xs) = nat_lt x 127 && are_small xs

pub smalls_shown : (e r : List ℕ) → are_small e ≡ true → shown held.Nothing (e ++ r) ≡ e ++ shown held.Nothing r
smalls_shown [] r h = refl
smalls_shown (x ∷ e) r h =
    let p = and_parts _ _ h in
    small_shown held.Nothing x (e ++ r) (ltb-true x 127 p.0) ∙ ap (λ l. x ∷ l) (smalls_shown e r p.1)

pub below_small : (bytes : List ℕ) → AreBelowControls bytes → are_small bytes ≡ true
below_small [] h = refl
below_small (x ∷ xs) h =
    and_from _ _ (lt-ltb x 127 (h 0 (omega arith))) (below_small xs (λ k l. h (suc k) (omega (arith, l))))

-- bytes of which no character is escaped are shown as they are
pub below_shown : (bytes : List ℕ) → AreBelowControls bytes → shown_text bytes ≡ bytes
below_shown bytes h =
    ap (λ l. shown held.Nothing l) (sym (append-nil bytes)) ∙ smalls_shown bytes [] (below_small bytes h)
    ∙ append-nil bytes

abbrev pub is_small_text : List ℕ → Bool
is_small_text [] = false
is_small_text (x ∷ xs) = nat_lt x 127 && are_small xs

pub text_shown : (h : HeldBack) (e r : List ℕ) → is_small_text e ≡ true
    → shown h (e ++ r) ≡ held_bytes h ++ (e ++ shown held.Nothing r)
text_shown h [] r s = absurd (true≢false (sym s))
text_shown h (x ∷ e) r s =
    let p = and_parts _ _ s in
    small_shown h x (e ++ r) (ltb-true x 127 p.0) ∙ ap (λ l. held_bytes h ++ (x ∷ l)) (smalls_shown e r p.1)

-- ---- the steps of a loop

pub shown_more : (text : List ℕ) (i : ℕ) (h : HeldBack) (now new all : List ℕ) → i < length text
    → now ++ shown h (drop i text) ≡ all → new ≡ now ++ emitted h (get_or text i 0)
    → new ++ shown (after h (get_or text i 0)) (drop (i + 1) text) ≡ all
shown_more text i h now new all within left adds =
    let x = get_or text i 0 in
    let rest = shown (after h x) (drop (i + 1) text) in
    ap (λ (l : List ℕ). l ++ rest) adds ∙ append_assoc now (emitted h x) rest
    ∙ ap (λ (l : List ℕ). now ++ l) (sym (at_drop_more (shown h) text i 0 within)) ∙ left
