-- The bytes of an item whose definitions stand in items of their own in front of it.
-- (docs/FORMAT.md, Parts of a stream: this project's own.)
use Rattle.std.specs.Prelude.{◌≡◌, ℕ, ◌+◌, ◌≤◌, List, [], ◌∷◌, ◌++◌, length}
use Rattle.gob_types.specs.Base.{base_table}
use Rattle.gob_types.specs.Table.{Table}
use Rattle.gob_stream.specs.Bounds.{Bounds, greatest_depth}
use Rattle.gob_filled.specs.Outcome.{BeginsFilled}
use Rattle.gob_filled.specs.Stream.{FilledItem, defining, putting, IsFilledItem, AreFilledItems}
use Rattle.gob_go_writer.specs.Hoisting.{inner_items, without_definitions}

-- the definitions that come of an item, and what else does: hoisted, it is these
abbrev pub definitions_in : FilledItem → List FilledItem
definitions_in (defining id v) = defining id v ∷ []
definitions_in (putting t w) = inner_items w

abbrev pub value_in : FilledItem → List FilledItem
value_in (defining id v) = []
value_in (putting t w) = putting t (without_definitions w) ∷ []

-- the bytes of both
pub record Text : Type 0 where
  pub definitions : List ℕ
  pub value : List ℕ

abbrev pub text_bytes : Text → List ℕ
text_bytes t = t.definitions ++ t.value

-- at this offset they are those items, behind which the types are those of the second table
pub record StandsApart (M : Bounds) (T U : Table) (offset : ℕ) (i : FilledItem) (t : Text) : Type 0 where
  pub definitions_are : AreFilledItems base_table M T offset (definitions_in i) t.definitions U
  pub value_is : AreFilledItems base_table M U (offset + length t.definitions) (value_in i) t.value U

-- wherever the item stands with these types behind it, the text is that of its parts, at each offset, under all limits
-- that allow the same depth, as many types, and so many bytes
abbrev pub IsTextOf : Table → FilledItem → Text → Type 0
IsTextOf T i t = (L : Bounds) (before : Table) (at : ℕ) (bytes : List ℕ) → L.depth ≤ greatest_depth
    → IsFilledItem base_table L before at i bytes T
    → (M : Bounds) (offset : ℕ) → M.depth ≡ L.depth → M.types ≡ L.types → length (text_bytes t) ≤ M.item
    → offset + length (text_bytes t) ≤ M.stream → StandsApart M before T offset i t

-- the bytes begin with the stream of the items, and these are their texts, each by the types behind the item
pub data HaveTexts (L : Bounds) (bytes : List ℕ) : List FilledItem → List Text → Type 0 where
  no_texts : HaveTexts L bytes [] []
  texts_then : {items : List FilledItem} {texts : List Text} (i : FilledItem) (t : Text) → HaveTexts L bytes items texts
      → (b : BeginsFilled base_table L bytes (items ++ i ∷ [])) → IsTextOf b.table i t
      → HaveTexts L bytes (items ++ i ∷ []) (texts ++ t ∷ [])
