-- What the definition of bytes with each definition said once says of whole items and of offsets.
use Rattle.std.specs.Prelude.{◌≡◌, ℕ, ◌+◌, ◌<◌, List, [], ◌++◌, true, false, Some, drop, take, slice_get}
use Rattle.std.specs.List.{All, AllPairs}
use Rattle.gob_appended.specs.Front.{front_at}
use Rattle.gob_appended.specs.Known.{is_known, with_definition}
use Rattle.gob_appended.specs.Offsets.{given_of}
use Rattle.gob_appended.specs.Once.{Byte, bytes_from, once_from, staying}
use Rattle.gob_appended.specs.declared.front.Front.TheVariants as front

-- where these definitions were met before, what is given of the input from this offset on are its bytes there without
-- the items that define a type again
pub data IsOnce : (met : List (List ℕ)) → (offset : ℕ) → (input : List ℕ) → (given : List Byte) → Type 0 where
  -- no item stands whole there
  as_it_is : {met : List (List ℕ)} {i : ℕ} {xs : List ℕ} → front_at xs ≡ front.Nothing
      → IsOnce met i xs (bytes_from i xs)
  -- an item that is no definition stays
  kept : {met : List (List ℕ)} {i : ℕ} {xs : List ℕ} {bs : List Byte} {n : ℕ} → front_at xs ≡ front.Plain n
      → IsOnce met (i + n) (drop n xs) bs → IsOnce met i xs (bytes_from i (take n xs) ++ bs)
  -- so does a definition in other bytes than those before
  new : {met : List (List ℕ)} {i : ℕ} {xs : List ℕ} {bs : List Byte} {n : ℕ} → front_at xs ≡ front.Definition n
      → is_known met (take n xs) ≡ false → IsOnce (with_definition met (take n xs)) (i + n) (drop n xs) bs
      → IsOnce met i xs (bytes_from i (take n xs) ++ bs)
  -- one that is said again is left out
  again : {met : List (List ℕ)} {i : ℕ} {xs : List ℕ} {bs : List Byte} {n : ℕ} → front_at xs ≡ front.Definition n
      → is_known met (take n xs) ≡ true → IsOnce met (i + n) (drop n xs) bs → IsOnce met i xs bs

-- what is defined for the bytes of a stream is that, and nothing else is
pub record SaysOnce : Type 0 where
  pub some : (met : List (List ℕ)) (i : ℕ) (xs : List ℕ) → IsOnce met i xs (once_from i met (staying 0) xs)
  pub one : (met : List (List ℕ)) (i : ℕ) (xs : List ℕ) (bs : List Byte) → IsOnce met i xs bs
      → bs ≡ once_from i met (staying 0) xs

-- what is given of an input are bytes of it at their offsets, in order
pub record StandsInInput : Type 0 where
  pub stands : (input : List ℕ) → All (λ b. slice_get input b.offset ≡ Some b.value) (given_of input)
  pub in_order : (input : List ℕ) → AllPairs (λ a b. a.offset < b.offset) (given_of input)

-- no item defines a type again in the same bytes
pub data NoneAgain : (met : List (List ℕ)) → List ℕ → Type 0 where
  nothing : {met : List (List ℕ)} {xs : List ℕ} → front_at xs ≡ front.Nothing → NoneAgain met xs
  plain : {met : List (List ℕ)} {xs : List ℕ} {n : ℕ} → front_at xs ≡ front.Plain n → NoneAgain met (drop n xs)
      → NoneAgain met xs
  defined : {met : List (List ℕ)} {xs : List ℕ} {n : ℕ} → front_at xs ≡ front.Definition n
      → is_known met (take n xs) ≡ false → NoneAgain (with_definition met (take n xs)) (drop n xs) → NoneAgain met xs

-- bytes without such an item are given as they are, each at its own offset
abbrev pub NothingIsLost : Type 0
NothingIsLost = (input : List ℕ) → NoneAgain [] input → given_of input ≡ bytes_from 0 input
