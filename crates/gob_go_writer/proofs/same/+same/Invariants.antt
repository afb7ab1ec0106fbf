use Rattle.std.proofs.Common.{◌≡◌, length}
use Rattle.gob_types.specs.Defined.{types}
use Rattle.gob_go.specs.declared.filled.Filled.{out-Filled}
use Rattle.gob_go_writer.proofs.SameSteps.{FillingsSo}
use Rattle.gob_go_writer.proofs.same.+same.Given as goal

abbrev pub invariant-same_value-fillings : goal.invariant-same_value-fillings
invariant-same_value-fillings l = record {
  same : length (out-Filled l.given).fillings.items ≡ length (out-Filled l.due).fillings.items;
  so : FillingsSo (types l.table) (out-Filled l.given).fillings.items (out-Filled l.due).fillings.items l.place;
}
