-- A stream's bytes with each definition said once, each byte with the offset at which it stood.
--
-- Bytes begin with items, each a count and so many bytes. A definition of at most 64 KiB, its count with it, is left
-- out where its bytes were a definition before; all else stays, in order. Where no item stands whole the rest stays as
-- it is, so bytes that are no stream are refused where they ever were.
use Rattle.std.specs.Prelude.{◌≡◌, ℕ, zero, suc, List, [], ◌∷◌, ◌++◌, Bool, true, false, if◌then◌else◌, map, take}
use Rattle.gob_appended.specs.Front.{front_at}
use Rattle.gob_appended.specs.Known.{is_known, with_definition}
use Rattle.gob_appended.specs.declared.front.Front.{Front}
use Rattle.gob_appended.specs.declared.front.Front.TheVariants as front

-- what becomes of the bytes that come: so many stay, so many are left out, or all stay
pub data Part : Type 0 where
  staying : ℕ → Part
  leaving : ℕ → Part
  rest : Part

-- the definitions that were met, and what becomes of the bytes that come
pub record Place : Type 0 where
  pub known : List (List ℕ)
  pub part : Part

abbrev pub at : List (List ℕ) → Part → Place
at ds p = record { known = ds; part = p }

-- what becomes of bytes with this at their front
abbrev pub judged : List (List ℕ) → List ℕ → Front → Place
judged ds xs front.Nothing = at ds rest
judged ds xs (front.Plain n) = at ds (staying n)
judged ds xs (front.Definition n) =
    at (with_definition ds (take n xs)) (if is_known ds (take n xs) then leaving n else staying n)

-- where an item ends the next is judged
abbrev pub settled : List (List ℕ) → Part → List ℕ → Place
settled ds (staying zero) xs = judged ds xs (front_at xs)
settled ds (leaving zero) xs = judged ds xs (front_at xs)
settled ds p xs = at ds p

-- a byte stays, and the part behind it
abbrev pub stays : Part → Bool
stays (staying n) = true
stays (leaving n) = false
stays rest = true

abbrev pub behind : Part → Part
behind (staying zero) = staying zero
behind (staying (suc n)) = staying n
behind (leaving zero) = leaving zero
behind (leaving (suc n)) = leaving n
behind rest = rest

-- a byte, and the offset of a stream at which it stands
pub record Byte : Type 0 where
  pub offset : ℕ
  pub value : ℕ

abbrev pub byte_at : (offset value : ℕ) → Byte
byte_at i x = record { offset = i; value = x }

abbrev pub values : List Byte → List ℕ
values bs = map (λ (b : Byte). b.value) bs

-- bytes one behind another, the first at this offset
abbrev pub bytes_from : (offset : ℕ) → List ℕ → List Byte
bytes_from i [] = []
bytes_from i (x ∷ xs) = byte_at i x ∷ bytes_from (suc i) xs

-- such bytes without definitions that are said again
abbrev pub once_from : (offset : ℕ) → List (List ℕ) → Part → List ℕ → List Byte
once_from i ds p [] = []
once_from i ds p (x ∷ xs) =
    let s = settled ds p (x ∷ xs) in
    (if stays s.part then byte_at i x ∷ [] else []) ++ once_from (suc i) s.known (behind s.part) xs

-- these without their offsets
abbrev pub once : List (List ℕ) → Part → List ℕ → List ℕ
once ds p xs = values (once_from 0 ds p xs)

-- whether so many of the bytes stay or so many, the same comes of them
abbrev pub StaysAlike : List ℕ → (m n : ℕ) → Type 0
StaysAlike w m n = (offset : ℕ) (ds : List (List ℕ)) (ys : List ℕ)
    → once_from offset ds (staying m) (w ++ ys) ≡ once_from offset ds (staying n) (w ++ ys)
