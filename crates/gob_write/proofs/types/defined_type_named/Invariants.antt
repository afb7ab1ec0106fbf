-- None of the definitions so far is named so.
use Rattle.std.proofs.Common.{drop}
use Rattle.gob_types.specs.Defined.{types}
use Rattle.gob_write.specs.Types.{ids_of}
use Rattle.gob_write.proofs.TypesLaws.{NoneBefore}
use Rattle.gob_write.proofs.types.defined_type_named.Given as goal

abbrev pub invariant-loop-definition : goal.invariant-loop-definition
invariant-loop-definition l =
    NoneBefore (types l.table) l.word (ids_of l.definitions) (ids_of (drop l.definition-index l.definitions))
