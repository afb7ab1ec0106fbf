use Rattle.std.proofs.Common.{◌≡◌, ℕ, ◌<◌, Some}
use Rattle.std.specs.Prelude.{slice_get}
use Rattle.gob_types.specs.Defined.{types}
use Rattle.gob_go.specs.declared.filled.Filling.{Filling}
use Rattle.gob_go_writer.specs.Machine.Each.{HoldsAt}
use Rattle.gob_go_writer.specs.Machine.Tidied.{IsTidiedAt}
use Rattle.gob_go_writer.proofs.tidy.value.+value.Given as goal

abbrev pub invariant-tidy_fillings-fillings : goal.invariant-tidy_fillings-fillings
invariant-tidy_fillings-fillings l = record {
  unvisited : goal.unvisited-tidy_fillings-fillings l;
  tidied : (number : ℕ) (f : Filling) → number < l.i → slice_get l.initial.fillings number ≡ Some f
      → HoldsAt (IsTidiedAt (types l.table) l.places) l.fillings number f;
}
