-- The texts of some bytes, each of which says one JSON value at most. (docs/FORMAT.md, Plain JSON as input.)
use Rattle.std.specs.Prelude.{◌≡◌, ◌≢◌, ℕ, ◌-◌, ◌<◌, ◌≤◌, List, [], ◌∷◌, ◌++◌, length, take, drop, cond, ◌==◌}
use Rattle.std.specs.Prelude.{Option, Some, None, Result, Ok, Err}
use Rattle.gob_stream.specs.Devices.{counts_up}
use Rattle.gob_stream.specs.Calls.Waiting.{waiting}
use Rattle.gob_stream.specs.declared.waiting.Waiting.{Waiting}
use Rattle.gob_write.specs.Lines.{IsLeft}
use Rattle.gob_write.specs.declared.fault.LinesFault.{LinesFault}
use Rattle.gob_write.specs.declared.fault.LinesFault.TheVariants as fault
use Rattle.gob_write.specs.declared.texts.Mark.{Mark}
use Rattle.gob_write.specs.declared.texts.Mark.TheVariants as mark
use Rattle.gob_write.specs.declared.texts.Open.{Open}
use Rattle.gob_write.specs.declared.texts.Open.TheVariants as opened
use Rattle.gob_write.specs.declared.texts.Searched.{Searched}

-- ---- where a text ends

-- what a byte is to it: a line feed, a space, a tab or a carriage return, brackets and braces, a quote or a backslash
abbrev pub byte_mark : ℕ → Mark
byte_mark x = cond (x == 10) mark.Feed (cond (x == 32) mark.Blank (cond (x == 9) mark.Blank (cond (x == 13) mark.Blank
    (cond (x == 123) mark.Opening (cond (x == 91) mark.Opening (cond (x == 125) mark.Closing
    (cond (x == 93) mark.Closing (cond (x == 34) mark.Quote (cond (x == 92) mark.Backslash mark.Other)))))))))

-- where nothing but a number or a word is open, behind a byte that is no white space
abbrev pub begun_by : Mark → Option Open
begun_by mark.Opening = Some (opened.Brackets 1)
begun_by mark.Closing = None
begun_by mark.Quote = Some (opened.Str 0)
begun_by _ = Some opened.Word

-- behind the end of a string or of another bracket
abbrev pub closed_in : ℕ → Option Open
closed_in depth = cond (depth == 0) None (Some (opened.Brackets depth))

abbrev pub open_in_brackets : ℕ → Mark → Option Open
open_in_brackets depth mark.Opening = Some (opened.Brackets (counts_up depth 1))
open_in_brackets depth mark.Closing = closed_in (depth - 1)
open_in_brackets depth mark.Quote = Some (opened.Str depth)
open_in_brackets depth _ = Some (opened.Brackets depth)

-- what is open behind one more byte. The text ends there behind the last bracket or brace that was open, behind a
-- string outside of them, behind the white space that ends a number or a word outside of them, and behind a line feed
-- that stands in a string or where nothing has begun.
abbrev pub open_behind : Open → Mark → Option Open
open_behind opened.Nothing mark.Feed = None
open_behind opened.Nothing mark.Blank = Some opened.Nothing
open_behind opened.Nothing m = begun_by m
open_behind opened.Word mark.Feed = None
open_behind opened.Word mark.Blank = None
open_behind opened.Word m = begun_by m
open_behind (opened.Brackets depth) m = open_in_brackets depth m
open_behind (opened.Str depth) mark.Feed = None
open_behind (opened.Str depth) mark.Quote = closed_in depth
open_behind (opened.Str depth) mark.Backslash = Some (opened.Escape depth)
open_behind (opened.Str depth) _ = Some (opened.Str depth)
open_behind (opened.Escape depth) mark.Feed = None
open_behind (opened.Escape depth) _ = Some (opened.Str depth)

-- ---- texts

abbrev pub if_open : Option Open → (Open → List ℕ) → List ℕ
if_open None bytes = []
if_open (Some o) bytes = bytes o

-- the first of some bytes, up to the end of the text, behind those of it that left this open
abbrev pub rest_of_text : Open → List ℕ → List ℕ
rest_of_text o [] = []
rest_of_text o (x ∷ xs) = x ∷ if_open (open_behind o (byte_mark x)) (λ p. rest_of_text p xs)

-- the first text of some bytes, and the bytes behind it
abbrev pub first_text : List ℕ → List ℕ
first_text bytes = rest_of_text opened.Nothing bytes

abbrev pub behind_text : List ℕ → List ℕ
behind_text bytes = drop (length (first_text bytes)) bytes

-- the bytes are these texts, of no more bytes than the most, and behind them the rest
pub data AreTexts (most : ℕ) (bytes : List ℕ) : List (List ℕ) → List ℕ → Type 0 where
  no_text : AreTexts most bytes [] bytes
  one_text_more : {texts : List (List ℕ)} {rest : List ℕ} → AreTexts most bytes texts rest → rest ≢ []
      → length (first_text rest) ≤ most → AreTexts most bytes (texts ++ first_text rest ∷ []) (behind_text rest)

-- ---- for private clauses

-- the text goes on behind these bytes, and they leave this open
pub record LeavesOpen (bytes : List ℕ) (o : Open) : Type 0 where
  pub goes_on : (rest : List ℕ) → first_text (bytes ++ rest) ≡ bytes ++ rest_of_text o rest

-- so many of the bytes were searched
pub record IsSearched (s : Searched) (bytes : List ℕ) : Type 0 where
  pub within : s.count ≤ length bytes
  pub leaves : LeavesOpen (take s.count bytes) s.unclosed

-- and the text ends behind them, whatever stands there
pub record EndsIn (s : Searched) (bytes : List ℕ) : Type 0 where
  pub some : 0 < s.count
  pub within : s.count ≤ length bytes
  pub ends : (rest : List ℕ) → first_text (bytes ++ rest) ≡ take s.count bytes

-- of these bytes the first text waits, and has so many; there is none only where there are no bytes
pub record WaitsText (most : ℕ) (bytes : List ℕ) (w : Waiting) (now : Option (List ℕ)) (count : ℕ) : Type 0 where
  pub left : IsLeft w now bytes
  pub within : count ≤ length (waiting w)
  pub text : take count (waiting w) ≡ first_text bytes
  pub short : count ≤ most
  pub none : count ≡ 0 → bytes ≡ []

-- what a call answers that waits for the text that begins at this line, where these bytes are left
abbrev pub NextText : (most : ℕ) → (line : ℕ) → (bytes : List ℕ) → Waiting → (now : Option (List ℕ))
    → Result ℕ LinesFault → Type 0
NextText most line bytes w now (Ok count) = WaitsText most bytes w now count
NextText most line bytes w now (Err (fault.TooLong n m)) = (n ≡ line) × (m ≡ most) × (most < length (first_text bytes))
NextText most line bytes w now (Err (fault.Wrong n column path due)) = ⊥
NextText most line bytes w now (Err (fault.Refused n r)) = ⊥
NextText most line bytes w now (Err fault.Read) = Unit {0}
NextText most line bytes w now (Err fault.Write) = Unit {0}
NextText most line bytes w now (Err fault.Memory) = Unit {0}
