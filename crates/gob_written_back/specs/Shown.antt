-- What the lines that `show` prints of a stream say. (docs/FORMAT.md, The JSON lines.)
use Rattle.std.specs.Prelude.{◌≡◌, ◌≤◌, ℕ, List, [], ◌∷◌, length, Some}
use Rattle.gob_num.specs.Unsigned.{AreBytes}
use Rattle.gob_types.specs.Base.{base_table}
use Rattle.gob_types.specs.declared.id.TypeId.{TypeId}
use Rattle.gob_types.specs.declared.kind.Shape.{Shape}
use Rattle.gob_types.specs.Table.{Table, shape_of}
use Rattle.gob_value.specs.Described.{described}
use Rattle.gob_value.specs.Tree.{Tree}
use Rattle.gob_stream.specs.Bounds.{Bounds}
use Rattle.gob_stream.specs.Item.{StreamItem, defines, puts}
use Rattle.gob_stream.specs.Stream.{Stream}
use Rattle.gob_lines.specs.Laws.{HaveFewFields}
use Rattle.gob_tool.specs.Line.{line, lines}
use Rattle.gob_write.specs.Lines.{AreLines}
use Rattle.gob_write.specs.Exact.{exact_lines}
use Rattle.gob_write.specs.Grammar.{SayItems}

-- the second item is the first, with the description that a writer makes of its shape
pub data IsMadeOf (T : Table) : StreamItem → StreamItem → Type 0 where
  made_description : {id : TypeId} {s : Shape} {v : Tree} → shape_of T id ≡ Some s
      → IsMadeOf T (defines id v) (defines id (described id s))
  same_value : {id : TypeId} {v : Tree} → IsMadeOf T (puts id v) (puts id v)

-- and so are the items of the second list those of the first
pub data AreMadeOf (T : Table) : List StreamItem → List StreamItem → Type 0 where
  none_made : AreMadeOf T [] []
  one_made : {i j : StreamItem} {items made : List StreamItem} → IsMadeOf T i j → AreMadeOf T items made
      → AreMadeOf T (i ∷ items) (j ∷ made)

-- the lines that `show` prints of the items, one by one
abbrev pub shown : Table → List StreamItem → List (List ℕ)
shown T [] = []
shown T (i ∷ items) = line T i ∷ shown T items

-- none of them is longer than a line may be
abbrev pub AreShort : (most : ℕ) → List (List ℕ) → Type 0
AreShort most [] = Unit {0}
AreShort most (l ∷ rest) = (length l ≤ most) × AreShort most rest

-- the text is cut into these lines, which say the stream of the items and no other one of bytes
pub record SaysStream (L : Bounds) (most : ℕ) (text : List ℕ) (lines : List (List ℕ)) (items : List StreamItem)
    (bytes : List ℕ) (T : Table) : Type 0 where
  pub cut : AreLines most text lines []
  pub say : SayItems (exact_lines L) lines items bytes T
  pub only : (others : List StreamItem) (c : List ℕ) (U : Table) → AreBytes bytes → AreBytes c
      → SayItems (exact_lines L) lines others c U → (others ≡ items) × (c ≡ bytes)

-- the text that `show` prints of a stream says the stream of its items, each description as a writer makes it
abbrev pub ShownStreamsAreWrittenBack : Type 0
ShownStreamsAreWrittenBack = (L : Bounds) (most : ℕ) (items made : List StreamItem) (bytes : List ℕ) (T : Table)
    → HaveFewFields T → AreMadeOf T items made → Stream base_table L made bytes T → AreShort most (shown T items)
    → SaysStream L most (lines T items) (shown T items) made bytes T
