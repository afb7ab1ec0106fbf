-- The laws of the parts of a stream. (docs/FORMAT.md, Parts of a stream: this project's own.)
use Rattle.std.specs.Prelude.{◌≡◌, ℕ, ◌+◌, ◌≤◌, List, [], ◌∷◌, ◌++◌, length, Option}
use Rattle.gob_types.specs.Base.{base_table}
use Rattle.gob_types.specs.Table.{Table}
use Rattle.gob_stream.specs.Bounds.{Bounds, greatest_depth}
use Rattle.gob_filled.specs.Stream.{FilledItem, FilledStream}
use Rattle.gob_split.specs.Split.{StreamPart, all_parts, IsSplit}
use Rattle.gob_split.specs.Text.{definitions_in, HaveTexts, Text, text_bytes, value_in}
use Rattle.gob_split.specs.declared.part_size.PartSize.{PartSize}

-- the definitions that come of items
abbrev pub definitions_among : List FilledItem → List FilledItem
definitions_among [] = []
definitions_among (i ∷ items) = definitions_in i ++ definitions_among items

-- all that comes of items: of each its definitions, and behind them its value
abbrev pub apart : List FilledItem → List FilledItem
apart [] = []
apart (i ∷ items) = (definitions_in i ++ value_in i) ++ apart items

-- each part has some of the items for its own, one part behind another: it is the stream of the definitions that come
-- of the items before these, and of all that comes of its own
pub data AreStreamsOf (M : Bounds) : List FilledItem → List (List ℕ) → Type 0 where
  no_streams : AreStreamsOf M [] []
  streams_then : {before : List FilledItem} {parts : List (List ℕ)} {part : List ℕ} {T : Table}
      (own : List FilledItem) → AreStreamsOf M before parts
      → FilledStream base_table M (definitions_among before ++ apart own) part T
      → AreStreamsOf M (before ++ own) (parts ++ part ∷ [])

-- no text has more than so many bytes
abbrev pub AreNoLonger : ℕ → List Text → Type 0
AreNoLonger most [] = Unit {0}
AreNoLonger most (t ∷ texts) = (length (text_bytes t) ≤ most) × AreNoLonger most texts

-- how many bytes they have together
abbrev pub size_of : List Text → ℕ
size_of [] = 0
size_of (t ∷ texts) = length (text_bytes t) + size_of texts

-- the parts into which a stream is split are streams of its items, under all limits that allow the same depth, as many
-- types, and so many bytes as each text and all of them together have
abbrev pub PartsAreStreams : Type 0
PartsAreStreams = (how : PartSize) (L M : Bounds) (bytes : List ℕ) (items : List FilledItem) (texts : List Text)
    (full : List (List ℕ)) (last : Option StreamPart) → L.depth ≤ greatest_depth → M.depth ≡ L.depth → M.types ≡ L.types
    → HaveTexts L bytes items texts → AreNoLonger M.item texts → size_of texts ≤ M.stream
    → IsSplit how texts full last → AreStreamsOf M items (all_parts full last)
