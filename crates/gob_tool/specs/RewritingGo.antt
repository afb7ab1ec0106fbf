-- What the run that rewrites a stream of Go's encoder answers, and what it has written then.
-- (docs/FORMAT.md, Tidy form; Fillings and segments; The program: this project's own.)
use Rattle.std.specs.Prelude.{◌≡◌, ℕ, ◌+◌, ◌≤◌, List, [], ◌∷◌, ◌++◌, length, Bool, true, false, Option, Result}
use Rattle.std.specs.Io.KnownBytes.{Appends}
use Rattle.gob_types.specs.Base.{base_table}
use Rattle.gob_types.specs.Table.{Table}
use Rattle.gob_stream.specs.Bounds.{Bounds, greatest_depth}
use Rattle.gob_filled.specs.Outcome.{BeginsFilled}
use Rattle.gob_filled.specs.Stream.{FilledItem, FilledStream, IsFilledItem, AreFilledItems}
use Rattle.gob_go_writer.specs.TidyItem.{TidiesItem}
use Rattle.gob_go_writer.specs.Hoisting.{hoisted}
use Rattle.gob_tool.specs.declared.fault.ToolFault.{ToolFault}
use Rattle.gob_tool.specs.Showing.{AppendsPrefix}
use Rattle.gob_tool.specs.RunningGo.{RunGoAnswers}

-- from these types on the bytes are the items at each offset, and behind them the types are those of the last table,
-- under all limits that allow the same depth, as many types, and so many bytes
abbrev pub AreAnywhere : Bounds → Table → List FilledItem → List ℕ → Table → Type 0
AreAnywhere L T items bytes U = (M : Bounds) (offset : ℕ) → M.depth ≡ L.depth → M.types ≡ L.types
    → length bytes ≤ M.item → offset + length bytes ≤ M.stream → AreFilledItems base_table M T offset items bytes U

-- ---- an item
-- wherever the one item stands in a stream, with these types behind it, the text is the other one, at any offset that
-- isn't higher, and is no longer; or it is the items that come of the other one, hoisted
abbrev pub StandsFor : (hoist : Bool) → Table → (item form : FilledItem) → (text : List ℕ) → Type 0
StandsFor false T item form text = (L : Bounds) (before : Table) (offset lower : ℕ) (bytes : List ℕ)
    → L.depth ≤ greatest_depth → IsFilledItem base_table L before offset item bytes T → lower ≤ offset
    → IsFilledItem base_table L before lower form text T × (length text ≤ length bytes)
StandsFor true T item form text = (L : Bounds) (before : Table) (offset : ℕ) (bytes : List ℕ)
    → L.depth ≤ greatest_depth → IsFilledItem base_table L before offset item bytes T
    → AreAnywhere L before (hoisted form) text T

-- the text is the tidy form of the item, where the types behind it are those of the table; hoisted or not
pub record IsRewritten (hoist : Bool) (T : Table) (item : FilledItem) (text : List ℕ) : Type 0 where
  pub form : FilledItem
  pub tidies : TidiesItem T item form
  pub stands : StandsFor hoist T item form text

-- ---- a stream
-- the bytes begin with the stream of the items, and the other items are their tidy forms, each by the types behind it
pub data AreTidied (L : Bounds) (bytes : List ℕ) : List FilledItem → List FilledItem → Type 0 where
  none_tidied : AreTidied L bytes [] []
  then_tidied : {items forms : List FilledItem} (i form : FilledItem) → AreTidied L bytes items forms
      → (b : BeginsFilled base_table L bytes (items ++ i ∷ [])) → TidiesItem b.table i form
      → AreTidied L bytes (items ++ i ∷ []) (forms ++ form ∷ [])

-- the items that come of items, when each definition that stands in a value stands in an item of its own
abbrev pub all_hoisted : List FilledItem → List FilledItem
all_hoisted [] = []
all_hoisted (i ∷ items) = hoisted i ++ all_hoisted items

-- the text is the stream of the items, or of those that come of them
abbrev pub IsStreamOf : (hoist : Bool) → Bounds → List FilledItem → (text : List ℕ) → Table → Type 0
IsStreamOf false L items text T = FilledStream base_table L items text T
IsStreamOf true L items text T = AreAnywhere L base_table (all_hoisted items) text T

-- this holds of the stream of the tidy forms of the items, behind which the types are those behind the items
pub record OfTidyStream (hoist : Bool) (L : Bounds) (bytes : List ℕ) (P : List ℕ → Type 0) (items : List FilledItem)
    : Type 0 where
  pub begins : BeginsFilled base_table L bytes items
  pub forms : List FilledItem
  pub tidied : AreTidied L bytes items forms
  pub text : List ℕ
  pub stream : IsStreamOf hoist L forms text begins.table
  pub holds : P text

-- how the run ends, over an input with these bytes left and an output with the old bytes: the tidy stream went out, and
-- nothing else, or after a failed write a prefix of it
abbrev pub RewriteGoAnswers : (hoist : Bool) → Bounds → (bytes : List ℕ) → (now old new : Option (List ℕ))
    → Result (Unit {0}) ToolFault → Type 0
RewriteGoAnswers hoist L bytes now old new result = RunGoAnswers L bytes now
    (OfTidyStream hoist L bytes (Appends old new)) (OfTidyStream hoist L bytes (AppendsPrefix old new)) result
