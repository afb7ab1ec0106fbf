-- Texts of the items of a stream of Go's encoder, by what is said of those of all items.
use Rattle.std.specs.Prelude.{ℕ, List, Option, Result}
use Rattle.gob_types.specs.Table.{Table}
use Rattle.gob_types.specs.declared.id.TypeId.{TypeId}
use Rattle.gob_stream.specs.Bounds.{Bounds}
use Rattle.gob_filled.specs.Filled.{Filled}
use Rattle.gob_filled.specs.Outcome.{profile}
use Rattle.gob_filled.specs.Stream.{FilledItem, putting}
use Rattle.gob_go.specs.Calls.Reader.{GoReader}
use Rattle.gob_go.specs.GoStepping.{go_stepping}
use Rattle.gob_go.specs.Meaning.{ItemMeans}
use Rattle.gob_go.specs.declared.item.GoItem.{GoItem}
use Rattle.gob_tool.specs.Texts.{TextsAnswersIn}
use Rattle.gob_tool.specs.Texts as any
use Rattle.gob_tool.specs.declared.fault.ToolFault.{ToolFault}

-- of one that was handed out
abbrev pub of_given : (Is : Table → FilledItem → List ℕ → Type 0) → Table → GoItem → List ℕ → Type 0
of_given Is T given text = (i : FilledItem) → ItemMeans T given i → Is T i text

-- of a value that waited as a whole
abbrev pub of_value : (Is : Table → FilledItem → List ℕ → Type 0) → Table → TypeId → Filled → List ℕ → Type 0
of_value Is T id w text = Is T (putting id w) text

-- the text of the item of such a value that waits as a whole
abbrev pub IsWholeText : (Is : Table → FilledItem → List ℕ → Type 0) → GoReader → (used : ℕ) → (text : List ℕ) → Type 0
IsWholeText Is r used text = any.IsWholeText go_stepping (of_value Is) r used text

-- how a run ends that writes a text of each item
abbrev pub TextsAnswers : (Is : Table → FilledItem → List ℕ → Type 0) → Bounds → (bytes : List ℕ)
    → (now old new : Option (List ℕ)) → Result (Unit {0}) ToolFault → Type 0
TextsAnswers Is L bytes now old new result = TextsAnswersIn profile Is L bytes now old new result
