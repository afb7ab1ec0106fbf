-- The first ones of the values are noted.
use Rattle.std.proofs.Common.{◌≡◌, ℕ, List, true}
use Rattle.gob_types.specs.Base.{base_table}
use Rattle.gob_types.specs.Table.{Table}
use Rattle.gob_stream.specs.Bounds.{Bounds}
use Rattle.gob_filled.specs.Stream.{FilledItem, AreFilledItems}
use Rattle.gob_salvage.specs.Searching.{HasWalked}
use Rattle.gob_salvage.proofs.kept_types.KeptTypes.note_values.Given as goal

abbrev pub invariant-values : goal.invariant-values
invariant-values l = record {
  walked : (L : Bounds) (T : Table) (offset : ℕ) (items : List FilledItem)
      → AreFilledItems base_table L T offset items l.values T → HasWalked L T items l.values l.fn.self l.self l.at;
  any : l.self.any ≡ true;
}
