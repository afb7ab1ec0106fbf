-- A writer of lines, with texts in place of their numbers or without.
use Rattle.std.specs.Prelude.{◌≡◌, ℕ, List, [], ◌++◌, All, Bool, true, false, Option, None, Some, OnOk, Result, map}
use Rattle.serde_json.specs.Data.{Data}
use Rattle.serde_json.specs.Written.{has_float}
use Rattle.json_number_texts.specs.Texts.{as_texts, lines}
use Rattle.json_number_texts.specs.Writer.{HasTaken, waiting}
use Rattle.json_number_texts.specs.declared.lines_out.LinesOut.{LinesOut}
use Rattle.json_number_texts.specs.declared.lines_out.LinesOut.TheVariants as out
use Rattle.json_number_texts.specs.declared.place.Place.TheVariants as place
use Rattle.json_number_texts.specs.declared.writer.TextsWriter.{TextsWriter}

abbrev pub has_texts : {W : Type 0} → LinesOut W → Bool
has_texts (out.Plain w) = false
has_texts (out.Texts t) = true

-- nothing was written to it, and it is over this writer, with texts where they are asked for
pub data IsOver {W : Type 0} (writer : W) : Bool → LinesOut W → Type 0 where
  plain : IsOver writer false (out.Plain writer)
  texts : {t : TextsWriter W} → t.writer ≡ writer → t.place ≡ place.Outside → waiting t ≡ []
      → IsOver writer true (out.Texts t)

-- what the writer below has
abbrev pub below : {W : Type 0} → (W → Option (List ℕ)) → LinesOut W → Option (List ℕ)
below contents (out.Plain w) = contents w
below contents (out.Texts t) = contents t.writer

-- and where that is what was written
abbrev pub plain_contents : {W : Type 0} → (W → Option (List ℕ)) → LinesOut W → Option (List ℕ)
plain_contents contents (out.Plain w) = contents w
plain_contents contents (out.Texts t) = None

-- behind what stood there before it has the bytes that were given, or what comes of them
abbrev pub HasGiven : {W : Type 0} → (W → Option (List ℕ)) → LinesOut W → (before given : List ℕ) → Type 0
HasGiven contents (out.Plain w) before given = contents w ≡ Some (before ++ given)
HasGiven contents (out.Texts t) before given = HasTaken contents t before given

-- lines as they are, or with texts in place of their numbers
abbrev pub lines_in : Bool → List Data → List ℕ
lines_in false ds = lines ds
lines_in true ds = lines (map as_texts ds)

-- where what was given are lines, the writer below has them so
abbrev pub PutsLines : {W E : Type 0} → (W → Option (List ℕ)) → (old new : LinesOut W) → Result (Unit {0}) E → Type 0
PutsLines contents old new result = (before : List ℕ) (ds : List Data) → All (λ d. has_float d ≡ false) ds
    → HasGiven contents old before (lines ds)
    → OnOk result (below contents new ≡ Some (before ++ lines_in (has_texts old) ds))
