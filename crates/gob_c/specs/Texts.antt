-- What the exports tell C of texts about bytes in memory.
use Rattle.std.specs.Prelude.{◌≡◌, ℕ, false, List, [], ◌++◌, Option, Some, None, Result, Ok, Err, length, take, drop}
use Rattle.gob_num.specs.declared.memory.Memory.{Memory}
use Rattle.gob_stream.specs.Bounds.{AreLimits, Bounds, deepest, within_trees}
use Rattle.gob_stream.specs.declared.fault.Refusal.{Refusal}
use Rattle.gob_tool.specs.ShowingGo.{ShowGoAnswers}
use Rattle.gob_views.specs.InMemory.{IsSourceText, IsValuesText, answer_of}
use Rattle.gob_views.specs.declared.types.SourceForm.TheVariants as form
use Rattle.gob_views.specs.declared.value_line.ValueLines.{ValueLines}
use Rattle.gob_why.specs.Said.{SaysOf}
use Rattle.gob_why.specs.declared.said.Said.{Said}
use Rattle.gob_c.specs.declared.texts.TextTold.{TextTold}

-- the text is what is said of these bytes, of their refusal or of what is in them
abbrev pub IsWhyText : Bounds → (bytes : List ℕ) → (text : List ℕ) → Type 0
IsWhyText limits bytes text = (refusal : Option Refusal) × SaysOf (within_trees limits) bytes refusal text

-- the text is the source of the types of these bytes, up to their refusal where they have one
abbrev pub IsTypesText : Bounds → (bytes : List ℕ) → (text : List ℕ) → Type 0
IsTypesText limits bytes text =
    (refusal : Option Refusal) × IsSourceText form.Types (within_trees limits) bytes refusal text

-- the lines that `gob values` prints where nothing else is asked of it
pub record ArePlain (lines : ValueLines) : Type 0 where
  pub zeros : lines.zeros ≡ false
  pub raw : lines.raw ≡ false
  pub kinds : lines.kinds.now ≡ []
  pub tagged : lines.tagged ≡ false
  pub typed : lines.typed ≡ false
  pub only : lines.only ≡ None
  pub each : lines.each ≡ false

-- the text is such lines of the values of these bytes, up to their refusal where they have one
abbrev pub IsLinesText : Bounds → (bytes : List ℕ) → (text : List ℕ) → Type 0
IsLinesText limits bytes text =
    (lines : ValueLines) × ArePlain lines
    × ((refusal : Option Refusal) × IsValuesText lines (within_trees limits) bytes refusal text)

-- the text is what `gob show --go` prints of these bytes, where they have this refusal or none
pub record IsShownText (L : Bounds) (bytes : List ℕ) (refusal : Option Refusal) (text : List ℕ) : Type 0 where
  pub now : Option (List ℕ)
  pub answers : ShowGoAnswers L bytes now (Some []) (Some text) (answer_of refusal)

abbrev pub IsShownOf : Bounds → (bytes : List ℕ) → Said → Type 0
IsShownOf L bytes said = IsShownText L bytes said.refusal said.text.items

-- the text is such lines of the items of these bytes, up to their refusal where they have one
abbrev pub AreShownLines : Bounds → (bytes : List ℕ) → (text : List ℕ) → Type 0
AreShownLines limits bytes text = (refusal : Option Refusal) × IsShownText (within_trees limits) bytes refusal text

-- the room with as much of the text at its front as there is room for
abbrev pub put_in : (text room : List ℕ) → List ℕ
put_in text room = take (length room) text ++ drop (length text) room

abbrev pub text_told : (status length : ℕ) → TextTold
text_told status length = record { status = status; length = length }

-- a text was put into the room, and its length is told; without memory the room is as it was
abbrev pub PutsSaid : Result Said Memory → (room room' : List ℕ) → TextTold → Type 0
PutsSaid (Ok said) room room' told = (room' ≡ put_in said.text.items room)
    × (told ≡ text_told 0 (length said.text.items))
PutsSaid (Err _) room room' told = (room' ≡ room) × (told ≡ text_told 2 0)

-- a text of which this holds was put into the room, and its length is told; or there was no memory for it, or the
-- limits are none, and the room is as it was
pub data TellsText (limits : Bounds) (P : List ℕ → Type 0) (room room' : List ℕ) (told : TextTold) : Type 0 where
  is_put : AreLimits deepest limits → (text : List ℕ) → P text → room' ≡ put_in text room
      → told ≡ text_told 0 (length text) → TellsText limits P room room' told
  lacks_memory : AreLimits deepest limits → room' ≡ room → told ≡ text_told 2 0
      → TellsText limits P room room' told
  are_no_limits : (AreLimits deepest limits → ⊥) → room' ≡ room → told ≡ text_told 4 0
      → TellsText limits P room room' told
