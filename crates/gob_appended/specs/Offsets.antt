-- At which offsets of its input the bytes stood that a reader has given.
use Rattle.std.specs.Prelude.{◌≡◌, ℕ, zero, suc, ◌+◌, ◌-◌, ◌^◌, ◌<◌, ◌≤◌, List, [], ◌++◌, Option, Some, Result, Ok, Err}
use Rattle.std.specs.Prelude.{drop, length, map, min, slice_index}
use Rattle.std.specs.declared.io.Error.{Error}
use Rattle.gob_appended.specs.Known.{known}
use Rattle.gob_appended.specs.Left.{part_of}
use Rattle.gob_appended.specs.Once.{Byte, once_from, staying}
use Rattle.gob_appended.specs.Reader.{ahead, place_among}
use Rattle.gob_appended.specs.Waiting.{waiting}
use Rattle.gob_appended.specs.declared.appended.Appended.{Appended}
use Rattle.gob_appended.specs.declared.places.Places.{Places}

-- the bytes that are given of an input, each with its offset there
abbrev pub given_of : (input : List ℕ) → List Byte
given_of input = once_from 0 [] (staying 0) input

-- the offset in the input of the byte that is given at this one
abbrev pub offset_of : (input : List ℕ) → (place : ℕ) → ℕ
offset_of input k = slice_index (map (λ (b : Byte). b.offset) (given_of input)) k

-- and behind the last of so many that are given
abbrev pub end_of : (input : List ℕ) → (count : ℕ) → ℕ
end_of input zero = 0
end_of input (suc last) = offset_of input last + 1

-- so many bytes were given of the input and so many left out, and each that was given has its offset
pub record TellsOffsets (input : List ℕ) (given left_out : ℕ) (places : Places) : Type 0 where
  pub given_is : places.given ≡ min given (2 ^ 64 - 1)
  pub left_out_is : places.left_out ≡ min left_out (2 ^ 64 - 1)
  pub each : (k : ℕ) → k < given → place_among places k ≡ min (offset_of input k) (2 ^ 64 - 1)

-- the reader has given the first so many of the bytes that it gives of this input, and is to give the others
pub record HasGiven {R : Type 0} (remaining : R → Option (List ℕ)) (input : List ℕ) (given : ℕ) (s : Appended R)
    : Type 0 where
  -- behind those that were given or left out some bytes wait, and the others are not yet read
  pub left_out : ℕ
  pub unread : List ℕ
  pub reads : ahead remaining s ≡ Some unread
  pub in_input : given + left_out ≤ length input
  pub behind : waiting s.waiting ++ unread ≡ drop (given + left_out) input
  -- what stays of these are those that are still to be given
  pub few : given ≤ length (given_of input)
  pub others : once_from (given + left_out) (known s.known) (part_of s.left) (waiting s.waiting ++ unread)
      ≡ drop given (given_of input)
  pub offsets : TellsOffsets input given left_out s.places

-- over a reader that is at the beginning of an input none of it was given
pub record Begins {R : Type 0} (reader : R) (s : Appended R) : Type 0 where
  pub begins : (remaining : R → Option (List ℕ)) (input : List ℕ) → remaining reader ≡ Some input
      → HasGiven remaining input 0 s

-- as much was given of its input as before
abbrev pub GivesNone : {R : Type 0} → (R → Option (List ℕ)) → (old new : Appended R) → Type 0
GivesNone remaining old new =
    (input : List ℕ) (given : ℕ) → HasGiven remaining input given old → HasGiven remaining input given new

-- so many bytes more
abbrev pub GivesMore : {R : Type 0} → (R → Option (List ℕ)) → (old new : Appended R) → (more : ℕ) → Type 0
GivesMore remaining old new more =
    (input : List ℕ) (given : ℕ) → HasGiven remaining input given old → HasGiven remaining input (given + more) new

-- so a read does that is answered so
abbrev pub ReadGives : {R : Type 0} → (R → Option (List ℕ)) → (old new : Appended R) → Result ℕ Error → Type 0
ReadGives remaining old new (Ok count) = GivesMore remaining old new count
ReadGives remaining old new (Err error) = GivesNone remaining old new

-- the offset of a byte that was given, whatever the input is
abbrev pub TellsPlace : {R : Type 0} → Appended R → (place told : ℕ) → Type 0
TellsPlace {R = R} s place told = (remaining : R → Option (List ℕ)) (input : List ℕ) (given : ℕ)
    → HasGiven remaining input given s → place < given → told ≡ min (offset_of input place) (2 ^ 64 - 1)

-- and behind so many that were given
abbrev pub TellsEnd : {R : Type 0} → Appended R → (count told : ℕ) → Type 0
TellsEnd {R = R} s count told = (remaining : R → Option (List ℕ)) (input : List ℕ) (given : ℕ)
    → HasGiven remaining input given s → count ≤ given → told ≡ min (end_of input count) (2 ^ 64 - 1)
