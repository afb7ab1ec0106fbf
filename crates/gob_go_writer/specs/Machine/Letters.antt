-- What segments under way stand for: the letters that were put into them. Those up to the last cut are segments that
-- have ended, each behind its count, and those behind it are open.
use Rattle.std.specs.Prelude.{◌≡◌, ℕ, pos, List, [], ◌∷◌, ◌++◌, length}
use Rattle.gob_num.specs.Unsigned.{IsUnsigned, AreBytes}
use Rattle.gob_num.specs.Signed.{IsSigned}
use Rattle.gob_types.specs.declared.id.TypeId.{TypeId}
use Rattle.gob_types.specs.Table.{Table}
use Rattle.gob_value.specs.View.{view}
use Rattle.gob_value.specs.declared.value.Value.{Value}
use Rattle.gob_filled.specs.Filled.{cut}
use Rattle.gob_go.specs.declared.filled.Filled.{Filled}
use Rattle.gob_go.specs.declared.item.GoItem.{GoItem}
use Rattle.gob_go.specs.declared.item.GoItem.TheVariants as item
use Rattle.gob_go_writer.specs.Spelling.{SpellsDefinition, SpellsValue}
use Rattle.gob_go_writer.specs.declared.segments.Segments.{Segments}

-- the bytes are the segment behind its count
pub record IsSegment (segment bytes : List ℕ) : Type 0 where
  pub count : List ℕ
  pub are_bytes : AreBytes segment
  pub counts : IsUnsigned (length segment) count
  pub whole : bytes ≡ count ++ segment

-- the letters end in a cut, or are none, and the bytes are their segments
pub data AreEnded : List ℕ → List ℕ → Type 0 where
  none_ended : AreEnded [] []
  one_ended : {ls f b : List ℕ} (s : List ℕ) → AreEnded ls f → IsSegment s b
      → AreEnded (ls ++ (s ++ (cut ∷ []))) (f ++ b)

-- the letters were put into the segments
pub record HasLetters (segments : Segments) (ls : List ℕ) : Type 0 where
  pub ended : List ℕ
  pub are_ended : AreEnded ended segments.ended.items
  pub whole : ls ≡ ended ++ segments.last.items

-- whatever letters were put into the segments, these are behind them now
pub record Takes (old new : Segments) (ls : List ℕ) : Type 0 where
  pub behind : (before : List ℕ) → HasLetters old before → HasLetters new (before ++ ls)

-- letters that are spelled so are behind whatever was put into them
pub record TakesSpelled (Spells : List ℕ → Type 0) (old new : Segments) : Type 0 where
  pub letters : List ℕ
  pub spelled : Spells letters
  pub takes : Takes old new letters

-- letters that are spelled so, and are bytes
pub record AreSpelledBytes (Spells : List ℕ → Type 0) (ls : List ℕ) : Type 0 where
  pub spelled : Spells ls
  pub are_bytes : AreBytes ls

-- the letters of an item, whose segments are its spelling
pub data AreOfItem (T : Table) : GoItem → List ℕ → Type 0 where
  of_definition : {id : TypeId} {described : Value} {ls : List ℕ}
      → AreSpelledBytes (SpellsDefinition T id (view described)) ls → AreOfItem T (item.Define id described) ls
  of_value : {id : TypeId} {kept : Filled} {n ls : List ℕ} → IsSigned (pos id.0) n → SpellsValue T kept ls
      → AreOfItem T (item.Put id kept) (n ++ ls)
