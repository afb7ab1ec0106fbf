-- What C says of fields that have another name in a stream.
use Rattle.std.specs.Prelude.{ℕ, List, [], ◌∷◌, ◌++◌}
use Rattle.std.specs.Str.{IsUtf8}
use Rattle.gob_rename.specs.Words.{AreSaid, IsFirstFault, Lacks}
use Rattle.gob_rename.specs.declared.rename.Rename.{Rename}
use Rattle.gob_c.specs.declared.renames.RenamesFault.{RenamesFault}
use Rattle.gob_c.specs.declared.renames.RenamesFault.TheVariants as fault

-- these are the words in the bytes, each of which ends before a byte 0; what is behind the last of these is no word
pub data AreWordsIn : (bytes : List ℕ) → (words : List (List ℕ)) → Type 0 where
  no_word : {rest : List ℕ} → Lacks 0 rest → AreWordsIn rest []
  word_then : {word rest : List ℕ} {words : List (List ℕ)} → Lacks 0 word → AreWordsIn rest words
      → AreWordsIn (word ++ 0 ∷ rest) (word ∷ words)

-- the words in the bytes say these
pub record AsksRenames (bytes : List ℕ) (rs : List Rename) : Type 0 where
  pub words : List (List ℕ)
  pub in_bytes : AreWordsIn bytes words
  pub said : AreSaid words rs

-- why they say none
abbrev pub IsRenamesFault : (bytes : List ℕ) → RenamesFault → Type 0
IsRenamesFault bytes fault.NotUtf8 = ¬ IsUtf8 bytes
IsRenamesFault bytes (fault.Word word why) =
    (words : List (List ℕ)) × (number : ℕ) × AreWordsIn bytes words × IsFirstFault words number why
IsRenamesFault bytes fault.Memory = Unit {0}
