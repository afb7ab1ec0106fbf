use Rattle.std.proofs.Common.{◌≡◌, length}
use Rattle.gob_types.specs.Defined.{types}
use Rattle.gob_go_writer.proofs.SameSteps.{DefinitionsSo}
use Rattle.gob_go_writer.proofs.same.same_definitions.Given as goal

abbrev pub invariant-definitions : goal.invariant-definitions
invariant-definitions l = record {
  same : length l.given ≡ length l.due;
  so : DefinitionsSo (types l.table) l.given l.due l.place;
}
