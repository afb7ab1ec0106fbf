-- The parts of a time, of whose digits those at the end are zeros.
use Rattle.std.proofs.Common.{◌≡◌, ◌∙◌, ◌≤◌, ◌<◌, ◌+◌, ◌-◌, ℕ, zero, suc, List, [], ◌∷◌, ◌++◌, ap, append-nil}
use Rattle.std.proofs.Common.{append_assoc, arith, drop, drop-cons, get_or, length, refl, subst, sym, take}
use Rattle.std.specs.Prelude.{slice_index}
use Rattle.std.specs.List.{All}
use Rattle.std.proofs.lemmas.List.{get_or-drop, get_or-take, length-drop, length-take-le, take-append-drop, take_rest}
use Rattle.std.proofs.lemmas.List.Elements.{All-from_get_or}
use Rattle.gob_plain.specs.FloatText.{pointed}
use Rattle.gob_make.specs.Leaf.{IsTrimmed}

pub no_point : (text b : List ℕ) → b ≡ text → IsTrimmed text (take 19 b ++ [] ++ take (length b - 19) (drop 19 b))
no_point text b e =
    subst (λ s. IsTrimmed s (take 19 b ++ [] ++ take (length b - 19) (drop 19 b))) e (record {
      clock = take 19 b;
      part = [];
      zeros = [];
      zone = drop 19 b;
      is = sym (take-append-drop 19 b) ∙ ap (λ (r : List ℕ). r ++ drop 19 b) (sym (append-nil (take 19 b)));
      are_zeros = λ k d l. let never : ⊥ = omega (arith, l) in absurd never;
      rest = ap (λ (r : List ℕ). take 19 b ++ [] ++ r) (take_rest b 19);
    })

kept_and_more : (xs : List ℕ) (kept end : ℕ) → kept ≤ end → take kept xs ++ drop kept (take end xs) ≡ take end xs
kept_and_more xs zero end l = refl
kept_and_more xs (suc k) zero l = let never : ⊥ = omega (arith, l) in absurd never
kept_and_more [] (suc k) (suc e) l = refl
kept_and_more (x ∷ xs) (suc k) (suc e) l = ap (λ (r : List ℕ). x ∷ r) (kept_and_more xs k e (omega (arith, l)))

some_pointed : (ds : List ℕ) → 0 < length ds → pointed ds ≡ 46 ∷ ds
some_pointed [] l = let never : ⊥ = omega (arith, l) in absurd never
some_pointed (d ∷ ds) l = refl

zeros_in : (xs : List ℕ) (kept end : ℕ) → end ≤ length xs
    → ((k : ℕ) → kept ≤ k → k < end → slice_index xs k ≡ 48) → All (λ digit. digit ≡ 48) (drop kept (take end xs))
zeros_in xs kept end l h =
    All-from_get_or (λ digit. digit ≡ 48) (drop kept (take end xs)) 0 (λ i m.
    let n : kept + i < end = omega (arith, m, length-drop kept (take end xs), length-take-le end xs l) in
    get_or-drop kept (take end xs) i 0 ∙ get_or-take end xs (kept + i) 0 n ∙ h (kept + i) (omega arith) n)

split_at_point : (b : List ℕ) (end d : ℕ) → 19 < length b → get_or b 19 d ≡ 46 → 0 < end → end ≤ length (drop 20 b)
    → b ≡ take 19 b ++ pointed (take end (drop 20 b)) ++ drop end (drop 20 b)
split_at_point b end d l point some within =
    let behind = drop 20 b in
    let digits : pointed (take end behind) ≡ 46 ∷ take end behind =
    some_pointed (take end behind) (omega (arith, some, length-take-le end behind within)) in
    let cut : drop 19 b ≡ 46 ∷ behind = drop-cons b 19 d l ∙ ap (λ (n : ℕ). n ∷ behind) point in
    sym (take-append-drop 19 b) ∙ ap (λ (r : List ℕ). take 19 b ++ r) (cut
    ∙ ap (λ (r : List ℕ). 46 ∷ r) (sym (take-append-drop end behind))
    ∙ ap (λ (r : List ℕ). r ++ drop end behind) (sym digits))
    ∙ sym (append_assoc (take 19 b) (pointed (take end behind)) (drop end behind))

with_point : (b : List ℕ) (end kept d : ℕ) → 19 < length b → get_or b 19 d ≡ 46 → 0 < end
    → end ≤ length (drop 20 b) → kept ≤ end
    → ((k : ℕ) → kept ≤ k → k < end → slice_index (drop 20 b) k ≡ 48)
    → IsTrimmed b (take 19 b ++ pointed (take kept (drop 20 b)) ++ drop end (drop 20 b))
with_point b end kept d l point some within less zeros =
    let behind = drop 20 b in record {
      clock = take 19 b;
      part = take kept behind;
      zeros = drop kept (take end behind);
      zone = drop end behind;
      is = split_at_point b end d l point some within
          ∙ ap (λ (r : List ℕ). take 19 b ++ pointed r ++ drop end behind) (sym (kept_and_more behind kept end less));
      are_zeros = zeros_in behind kept end within zeros;
      rest = refl;
    }

-- of slices as they are cut
pub point_there : (text b behind zone : List ℕ) (end kept d : ℕ) → b ≡ text → behind ≡ drop 20 b
    → zone ≡ drop end behind → 19 < length b → get_or b 19 d ≡ 46 → 0 < end → end ≤ length behind → kept ≤ end
    → ((k : ℕ) → kept ≤ k → k < end → slice_index behind k ≡ 48)
    → IsTrimmed text (take 19 b ++ pointed (take kept behind) ++ zone)
point_there text b behind zone end kept d same cut rest l point some within less zeros =
    subst (λ s. IsTrimmed s (take 19 b ++ pointed (take kept behind) ++ zone)) same
    (rw (rest, cut) (with_point b end kept d l point some (subst (λ (r : List ℕ). end ≤ length r) cut within) less
    (subst (λ (r : List ℕ). (k : ℕ) → kept ≤ k → k < end → slice_index r k ≡ 48) cut zeros)))
