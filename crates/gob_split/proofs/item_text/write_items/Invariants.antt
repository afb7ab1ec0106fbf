use Rattle.std.proofs.Common.{List, ℕ, drop}
use Rattle.gob_types.specs.Defined.{types}
use Rattle.gob_tool.specs.Machine.FormsGo.{AreItemsOf}
use Rattle.gob_tool.proofs.Profile.FormLaws.{IsWritten}
use Rattle.gob_split.proofs.item_text.write_items.Given as goal

abbrev pub invariant-loop-item : goal.invariant-loop-item
invariant-loop-item l = (bytes : List ℕ) → AreItemsOf (types l.table) l.items bytes
    → IsWritten (types l.table) (drop l.item-index l.items) bytes l.fn.bytes.items l.bytes.items
