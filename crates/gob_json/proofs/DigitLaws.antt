-- The digits of a number, three at a time.
use Rattle.std.proofs.Common.{◌≡◌, ℕ, suc, ◌+◌, ◌-◌, ◌*◌, ◌/◌, ◌%◌, ◌^◌, ◌<◌, ◌≤◌, List, [], ◌∷◌, ◌++◌, ap, ◌∙◌, inl}
use Rattle.std.proofs.Common.{inr, arith, eq-zero-or-pos, append_assoc}
use Rattle.std.proofs.Common.{append-nil, length, length-append, take, drop, refl, sym, set, length-set, nat_lt}
use mir.Val.{bool_byte}
use Rattle.std.proofs.lemmas.Bool.{lt-ltb, le-ltb}
use Rattle.std.proofs.lemmas.List.{take_more_set, take-append-drop, drop-append-le, drop-drop, length-drop}
use Rattle.std.proofs.lemmas.List.{length-take-le}
use Rattle.std.proofs.Math.Seq.{take-append_seam, take-append-add}
use borrow.Rule.Slice.PartMut.{put_mid}
use Rattle.std.proofs.lemmas.Grind.{take-set_at}
use Rattle.std.proofs.lemmas.Fmt.{decimal_digit, decimal_step}
use Rattle.std.specs.Fmt.{decimal}
use Rattle.gob_json.proofs.RowLaws.{row}
use Rattle.gob_json.specs.Machine.Digits.{three_digits}
use Rattle.gob_json.specs.declared.text.digits.TheConstants.{HEX_PAIRS, TRIPLES}
use Rattle.std.specs.Prelude.{slice_index}
use Rattle.hex.specs.Hex.{lower_digits}

-- ---- the table
digits_in_table : (n : ℕ) → n < 1000 → take 3 (drop (n * 4) TRIPLES) ≡ three_digits n
digits_in_table n h = row 4 3 three_digits TRIPLES 0 1000 n n (omega arith) tt h

pub row_of_table : (n : ℕ) → n < 1000 → drop (n * 4) TRIPLES ≡ three_digits n ++ drop 3 (drop (n * 4) TRIPLES)
row_of_table n h =
    let r = drop (n * 4) TRIPLES in
    sym (take-append-drop 3 r) ∙ ap (λ (l : List ℕ). l ++ drop 3 r) (digits_in_table n h)

-- the two of a byte in hexadecimal
abbrev pub hex_pair : ℕ → List ℕ
hex_pair n = slice_index lower_digits (n / 16) ∷ slice_index lower_digits (n % 16) ∷ []

pub hex_row : (n at size : ℕ) → n < 256 → at ≡ n * 2 → size ≡ 2 → take size (drop at HEX_PAIRS) ≡ hex_pair n
hex_row n at size h place two =
    ap (λ k. take k (drop at HEX_PAIRS)) two ∙ ap (λ k. take 2 (drop k HEX_PAIRS)) place
    ∙ row 2 2 hex_pair HEX_PAIRS 0 256 n n (omega arith) tt h

-- the last of the three digits, without so many before them
pub last_digits : (n from k z : ℕ) → n < 1000 → from ≡ n * 4 + z → z + k ≡ 3
    → take k (drop from TRIPLES) ≡ drop z (three_digits n)
last_digits n from k z h place size =
    let kept = drop z (three_digits n) in
    let rest = drop 3 (drop (n * 4) TRIPLES) in
    let long : length kept ≡ k = length-drop z (three_digits n) ∙ (omega (arith, size)) in
    ap (λ (p : ℕ). take k (drop p TRIPLES)) place
    ∙ ap (take k) (sym (drop-drop z (n * 4) TRIPLES) ∙ ap (drop z) (row_of_table n h)
    ∙ drop-append-le z (three_digits n) rest (omega (arith, size)))
    ∙ ap (λ (m : ℕ). take m (kept ++ rest)) (sym long) ∙ take-append_seam kept rest

-- ---- stores
pub two_stored : (b : List ℕ) (at x y : ℕ) → at + 2 ≤ length b
    → take (at + 2) (set (set b at x) (at + 1) y) ≡ take at b ++ x ∷ y ∷ []
two_stored b at x y h =
    take-set_at (set b at x) (at + 1) (at + 2) y (omega arith) (omega (arith, length-set b at x))
    ∙ ap (λ l. l ++ y ∷ []) (take_more_set b at x (omega arith)) ∙ append_assoc (take at b) (x ∷ []) (y ∷ [])

-- ---- three digits, of which those before the number are zeros
pub decimal_thousands : (n : ℕ) → 1000 ≤ n → n < 2 ^ 64 → decimal n ≡ decimal (n / 1000) ++ three_digits (n % 1000)
decimal_thousands n lo hi =
    let a : n / 10 / 10 / 10 ≡ n / 1000 = omega arith in
    let b : n / 10 / 10 % 10 ≡ n % 1000 / 100 % 10 = omega arith in
    let c : n / 10 % 10 ≡ n % 1000 / 10 % 10 = omega arith in
    let d : n % 10 ≡ n % 1000 % 10 = omega arith in
    rw (
      decimal_step n (omega arith) hi,
      decimal_step (n / 10) (omega arith) (omega arith),
      decimal_step (n / 10 / 10) (omega arith) (omega arith),
      append_assoc,
      append_assoc,
      a,
      b,
      c,
      ← d,
    )

pub decimal_millions : (n : ℕ) → 1000000 ≤ n → n < 2 ^ 64
    → decimal n ≡ decimal (n / 1000000) ++ (three_digits (n / 1000 % 1000) ++ three_digits (n % 1000))
decimal_millions n lo hi =
    let a : n / 1000 / 1000 ≡ n / 1000000 = omega arith in
    rw (decimal_thousands n (omega arith) hi, decimal_thousands (n / 1000) (omega arith) (omega arith), append_assoc, a)
    refl

pub all_digits : (n : ℕ) → 100 ≤ n → n < 1000 → three_digits n ≡ decimal n
all_digits n lo hi =
    let a : n / 10 / 10 ≡ n / 100 % 10 = omega arith in
    sym (rw (
      decimal_step n (omega arith) (omega arith),
      decimal_step (n / 10) (omega arith) (omega arith),
      decimal_digit (n / 10 / 10) (omega arith),
      a,
    ) refl)

pub two_of_three : (n : ℕ) → 10 ≤ n → n < 100 → drop 1 (three_digits n) ≡ decimal n
two_of_three n lo hi =
    let a : n / 10 % 10 ≡ n / 10 = omega arith in
    rw (decimal_step n lo (omega arith), decimal_digit (n / 10) (omega arith), a) refl

pub one_of_three : (n : ℕ) → n < 10 → drop 2 (three_digits n) ≡ decimal n
one_of_three n h =
    let a : n % 10 ≡ n = omega arith in
    rw (decimal_digit n h, a) refl

-- whether the number is below the other, as 1 or 0
pub record Counts (n p z : ℕ) : Type 0 where
  pub below : n < p → z ≡ 1
  pub not_below : p ≤ n → z ≡ 0

pub counts : (n p z : ℕ) → z ≡ bool_byte (nat_lt n p) → Counts n p z
counts n p z e = record {
  below = λ h. e ∙ ap bool_byte (lt-ltb n p h);
  not_below = λ h. e ∙ ap bool_byte (le-ltb n p h);
}

pub zeros_dropped : (n a b : ℕ) → n < 1000 → Counts n 10 a → Counts n 100 b
    → (drop (a + b) (three_digits n) ≡ decimal n) × (a + b ≤ 2)
zeros_dropped n a b h p q =
    elim (eq-zero-or-pos (n - 9)) [
      | inl z1 ↦ rw (p.below (omega arith), q.below (omega arith)) (one_of_three n (omega arith), omega arith)
      | inr z1 ↦ elim (eq-zero-or-pos (n - 99)) [
        | inl z2 ↦ rw (p.not_below (omega arith), q.below (omega arith))
            (two_of_three n (omega arith) (omega arith), omega arith)
        | inr z2 ↦ rw (p.not_below (omega arith), q.not_below (omega arith))
            (all_digits n (omega arith) h, omega arith)
      ]
    ]

-- bytes that are stored, of which some don't count
stored_prefix : (b xs more : List ℕ) (at k : ℕ) → at ≤ length b
    → take (at + length xs) (put_mid at k b (xs ++ more)) ≡ take at b ++ xs
stored_prefix b xs more at k place =
    let prefix = take at b in
    let behind = drop k (drop at b) in
    let here : at + length xs ≡ length prefix + length xs = omega (arith, length-take-le at b place) in
    ap (λ (l : List ℕ). take (at + length xs) (prefix ++ l)) (append_assoc xs more behind)
    ∙ ap (λ (n : ℕ). take n (prefix ++ (xs ++ (more ++ behind)))) here
    ∙ take-append-add prefix (xs ++ (more ++ behind)) (length xs)
    ∙ ap (λ (l : List ℕ). prefix ++ l) (take-append_seam xs (more ++ behind))

-- the two digits of a byte
pub two_hex_stored : (b : List ℕ) (at n k row_at size : ℕ) → at ≤ length b → n < 256 → row_at ≡ n * 2 → size ≡ 2
    → take (at + 2) (put_mid at k b (take size (drop row_at HEX_PAIRS))) ≡ take at b ++ hex_pair n
two_hex_stored b at n k row_at size place h is two =
    ap (λ (l : List ℕ). take (at + 2) (put_mid at k b l)) (hex_row n row_at size h is two
    ∙ sym (append-nil (hex_pair n)))
    ∙ stored_prefix b (hex_pair n) [] at k place

-- what is stored in the place of as many bytes changes no length
pub length_stored : (b xs : List ℕ) (at k : ℕ) → at + k ≤ length b → length xs ≡ k
    → length (put_mid at k b xs) ≡ length b
length_stored b xs at k place size =
    let behind = drop k (drop at b) in
    omega (
      arith,
      size,
      length-append (take at b) (xs ++ behind),
      length-append xs behind,
      length-take-le at b (omega (arith, place)),
      length-drop k (drop at b),
      length-drop at b,
    )

-- what stands between two bytes
pub between_stored : (b xs : List ℕ) (at k end new x y : ℕ) → end ≡ at + 1 + length xs → new ≡ end + 1 → new ≤ length b
    → length xs ≡ k → take new (set (put_mid (at + 1) k (set b at x) xs) end y) ≡ take at b ++ x ∷ (xs ++ y ∷ [])
between_stored b xs at k end new x y last behind place size =
    let first = set b at x in
    let stored = put_mid (at + 1) k first xs in
    let there : at + 1 ≤ length first = omega (arith, place, last, behind, length-set b at x) in
    let long : length stored ≡ length b =
    length_stored first xs (at + 1) k (omega (arith, place, last, behind, size, length-set b at x)) size
    ∙ length-set b at x in
    take-set_at stored end new y (omega (arith, behind)) (omega (arith, long, place, behind))
    ∙ ap (λ l. l ++ y ∷ []) (ap (λ n. take n stored) last
    ∙ ap (λ l. take (at + 1 + length xs) (put_mid (at + 1) k first l)) (sym (append-nil xs))
    ∙ stored_prefix first xs [] (at + 1) k there
    ∙ ap (λ l. l ++ xs) (take_more_set b at x (omega (arith, place, last, behind)))
    ∙ append_assoc (take at b) (x ∷ []) xs)
    ∙ append_assoc (take at b) (x ∷ xs) (y ∷ [])

-- all bytes that there is room for are stored, of which those of the text count
pub kept_stored : (b xs : List ℕ) (at k n : ℕ) → at ≤ length b → n ≤ length xs
    → take (at + n) (put_mid at k b xs) ≡ take at b ++ take n xs
kept_stored b xs at k n place most =
    let long : n ≡ length (take n xs) = sym (length-take-le n xs most) in
    ap (λ (m : ℕ). take (at + m) (put_mid at k b xs)) long
    ∙ ap (λ (l : List ℕ). take (at + length (take n xs)) (put_mid at k b l)) (sym (take-append-drop n xs))
    ∙ stored_prefix b (take n xs) (drop n xs) at k place

-- four bytes of the table from a digit of the number on
pub first_stored : (b : List ℕ) (at n x y k j : ℕ) → n < 1000 → at ≤ length b → Counts n 10 x → Counts n 100 y → j ≡ 4
    → take (at + (3 - (x + y))) (put_mid at k b (take j (drop (n * 4 + (x + y)) TRIPLES))) ≡ take at b ++ decimal n
first_stored b at n x y k j h place p q four =
    let z = x + y in
    let d = zeros_dropped n x y h p q in
    let kept = drop z (three_digits n) in
    let rest = drop 3 (drop (n * 4) TRIPLES) in
    let long : length kept ≡ 3 - z = length-drop z (three_digits n) in
    let bytes : drop (n * 4 + z) TRIPLES ≡ kept ++ rest =
    sym (drop-drop z (n * 4) TRIPLES) ∙ ap (drop z) (row_of_table n h)
    ∙ drop-append-le z (three_digits n) rest (omega (arith, d.1)) in
    let whole : j ≡ length kept + suc z = omega (arith, four, long, d.1) in
    let these : take j (drop (n * 4 + z) TRIPLES) ≡ kept ++ take (suc z) rest =
    ap (take j) bytes ∙ ap (λ (m : ℕ). take m (kept ++ rest)) whole ∙ take-append-add kept rest (suc z) in
    ap (λ (l : List ℕ). take (at + (3 - z)) (put_mid at k b l)) these
    ∙ ap (λ (m : ℕ). take (at + m) (put_mid at k b (kept ++ take (suc z) rest))) (sym long)
    ∙ stored_prefix b kept (take (suc z) rest) at k place ∙ ap (λ (l : List ℕ). take at b ++ l) d.0

pub three_stored : (b : List ℕ) (at n k j : ℕ) → n < 1000 → at ≤ length b → j ≡ 4
    → take (at + 3) (put_mid at k b (take j (drop (n * 4) TRIPLES))) ≡ take at b ++ three_digits n
three_stored b at n k j h place four =
    let rest = drop 3 (drop (n * 4) TRIPLES) in
    let these : take j (drop (n * 4) TRIPLES) ≡ three_digits n ++ take 1 rest =
    ap (take j) (row_of_table n h) ∙ ap (λ (m : ℕ). take m (three_digits n ++ rest)) four
    ∙ take-append-add (three_digits n) rest 1 in
    ap (λ (l : List ℕ). take (at + 3) (put_mid at k b l)) these ∙ stored_prefix b (three_digits n) (take 1 rest) at k
    place
