-- An item has one spelling, and that of an item of a stream is its bytes.
-- (They follow from docs/FORMAT.md, Fillings and segments.)
use Rattle.std.specs.Prelude.{◌≡◌, ℕ, List}
use Rattle.gob_types.specs.Table.{Table}
use Rattle.gob_go.specs.declared.item.GoItem.{GoItem}
use Rattle.gob_go_writer.specs.Item.{IsItemOf}
use Rattle.gob_go_writer.specs.Spelling.{IsSpelling}

abbrev pub HaveOneSpelling : Type 0
HaveOneSpelling = (T : Table) (kept : GoItem) (b c : List ℕ) → IsSpelling T kept b → IsSpelling T kept c → b ≡ c

abbrev pub AreSpelled : Type 0
AreSpelled = (T : Table) (kept : GoItem) (b : List ℕ) → IsItemOf T kept b → IsSpelling T kept b
