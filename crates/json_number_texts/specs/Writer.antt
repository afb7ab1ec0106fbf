-- What a writer of texts has handed on, and what it was given.
use Rattle.std.specs.Prelude.{◌≡◌, ℕ, List, ◌++◌, All, Option, Some, OnOk, Result, drop, false, map}
use Rattle.std.specs.Io.KnownBytes.{append_known}
use Rattle.serde_json.specs.Data.{Data}
use Rattle.serde_json.specs.Written.{has_float}
use Rattle.json_number_texts.specs.Texts.{as_texts, lines, place_after, with_texts}
use Rattle.json_number_texts.specs.declared.place.Place.TheVariants as place
use Rattle.json_number_texts.specs.declared.writer.TextsWriter.{TextsWriter}

-- the bytes that the writer below is still to get
abbrev pub waiting : {W : Type 0} → TextsWriter W → List ℕ
waiting w = drop w.sent w.text.items

-- what the writer below has and is still to get, where that is known
abbrev pub passed_on : {W : Type 0} → (W → Option (List ℕ)) → TextsWriter W → Option (List ℕ)
passed_on contents w = append_known (contents w.writer) (waiting w)

-- behind what stood there before, it has what comes of the bytes that were given
pub record HasTaken {W : Type 0} (contents : W → Option (List ℕ)) (w : TextsWriter W) (before given : List ℕ) : Type 0
  where
    pub passed : passed_on contents w ≡ Some (before ++ with_texts place.Outside given)
    pub place : w.place ≡ place_after place.Outside given

-- where what was given are lines, the writer below has those of the values with texts in place of numbers
abbrev pub HasLines : {W E : Type 0} → (W → Option (List ℕ)) → (old new : TextsWriter W) → Result (Unit {0}) E → Type 0
HasLines contents old new result = (before : List ℕ) (ds : List Data) → All (λ d. has_float d ≡ false) ds
    → HasTaken contents old before (lines ds)
    → OnOk result (contents new.writer ≡ Some (before ++ lines (map as_texts ds)))
