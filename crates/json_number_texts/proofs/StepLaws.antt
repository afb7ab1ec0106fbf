-- The steps of a loop over a piece.
use Rattle.std.proofs.Common.{◌≡◌, ℕ, ◌+◌, ◌-◌, ◌<◌, ◌≤◌, true, false, List, [], ◌∷◌, ◌++◌, refl, sym, ap}
use Rattle.std.proofs.Common.{◌∙◌, arith, append_assoc, drop, get_or, length, take}
use Rattle.std.specs.List.{slice_range}
use Rattle.std.proofs.lemmas.List.{at_drop_more, get_or-drop, length-drop, take_more}
use Rattle.json_number_texts.specs.Texts.{after, is_edge, place_after, with_texts}
use Rattle.json_number_texts.specs.declared.place.Place.{Place}

module _ (piece : List ℕ) (i : ℕ) (within : i < length piece) (p : Place) where
  abbrev byte : ℕ
  byte = get_or piece i 0

  abbrev rest : List ℕ
  rest = with_texts (after p byte) (drop (i + 1) piece)

  pub place_on : (all : Place) → place_after p (drop i piece) ≡ all
      → place_after (after p byte) (drop (i + 1) piece) ≡ all
  place_on all e = sym (at_drop_more (place_after p) piece i 0 within) ∙ e

  at_byte : with_texts p (drop i piece) ≡ with_texts p (byte ∷ drop (i + 1) piece)
  at_byte = at_drop_more (with_texts p) piece i 0 within

  slice_on : (start : ℕ) → start ≤ i → slice_range piece start (i + 1) ≡ slice_range piece start i ++ byte ∷ []
  slice_on start l =
      let more : i + 1 - start ≡ (i - start) + 1 = omega (arith, l) in
      let at : start + (i - start) ≡ i = omega (arith, l) in
      let inside : i - start < length (drop start piece) = omega (arith, l, within, length-drop start piece) in
      ap (λ (n : ℕ). take n (drop start piece)) more ∙ take_more (drop start piece) (i - start) 0 inside
      ∙ ap (λ (x : ℕ). slice_range piece start i ++ x ∷ [])
      (get_or-drop start piece (i - start) 0 ∙ ap (λ (n : ℕ). get_or piece n 0) at)

  -- what waits grows by the byte
  pub texts_on : (start : ℕ) (out all : List ℕ) → start ≤ i → is_edge p byte ≡ false
      → out ++ (slice_range piece start i ++ with_texts p (drop i piece)) ≡ all
      → out ++ (slice_range piece start (i + 1) ++ rest) ≡ all
  texts_on start out all l e h =
      let s = slice_range piece start i in
      let one : with_texts p (byte ∷ drop (i + 1) piece) ≡ byte ∷ rest = rw e refl in
      ap (λ (x : List ℕ). out ++ (x ++ rest)) (slice_on start l)
      ∙ ap (λ (x : List ℕ). out ++ x) (append_assoc s (byte ∷ []) rest
      ∙ ap (λ (x : List ℕ). s ++ x) (sym one ∙ sym at_byte)) ∙ h

  -- what waits is appended, and a quote
  pub texts_cut : (start : ℕ) (out new all : List ℕ) → is_edge p byte ≡ true
      → new ≡ (out ++ slice_range piece start i) ++ 34 ∷ []
      → out ++ (slice_range piece start i ++ with_texts p (drop i piece)) ≡ all
      → new ++ (slice_range piece i (i + 1) ++ rest) ≡ all
  texts_cut start out new all e is h =
      let s = slice_range piece start i in
      let two : with_texts p (byte ∷ drop (i + 1) piece) ≡ 34 ∷ byte ∷ rest = rw e refl in
      let none : slice_range piece i i ≡ [] = ap (λ (n : ℕ). take n (drop i piece)) {x = i - i} {y = 0} (omega arith) in
      let last : slice_range piece i (i + 1) ≡ byte ∷ [] =
      slice_on i (omega arith) ∙ ap (λ (x : List ℕ). x ++ byte ∷ []) none in
      ap (λ (x : List ℕ). x ++ (slice_range piece i (i + 1) ++ rest)) is
      ∙ ap (λ (x : List ℕ). ((out ++ s) ++ 34 ∷ []) ++ (x ++ rest)) last
      ∙ append_assoc (out ++ s) (34 ∷ []) (byte ∷ rest) ∙ append_assoc out s (34 ∷ byte ∷ rest)
      ∙ ap (λ (x : List ℕ). out ++ (s ++ x)) (sym two ∙ sym at_byte) ∙ h
