use Rattle.std.proofs.Common.{◌≡◌, ℕ, ◌<◌, ◌≤◌, Some, get_or}
use Rattle.std.specs.Prelude.{slice_get}
use Rattle.gob_types.specs.Defined.{types}
use Rattle.gob_go.specs.declared.filled.Definition.{Definition}
use Rattle.gob_go_writer.specs.Machine.Each.{HoldsAt}
use Rattle.gob_go_writer.specs.Machine.Tidied.{IsDefinitionTidied}
use Rattle.gob_go_writer.proofs.tidy.description.tidy_definitions.Given as goal

abbrev pub invariant-definitions : goal.invariant-definitions
invariant-definitions l = record {
  unvisited : (k : ℕ) (d : Definition) → l.i ≤ k
      → get_or l.definitions k d ≡ get_or l.initial.definitions k d;
  tidied : (number : ℕ) (d : Definition) → number < l.i → slice_get l.initial.definitions number ≡ Some d
      → HoldsAt (λ n. IsDefinitionTidied (types l.table)) l.definitions number d;
}
