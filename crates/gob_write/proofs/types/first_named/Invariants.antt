-- None of the types so far is named so.
use Rattle.std.proofs.Common.{drop}
use Rattle.gob_types.specs.Defined.{types}
use Rattle.gob_write.proofs.TypesLaws.{NoneBefore}
use Rattle.gob_write.proofs.types.first_named.Given as goal

abbrev pub invariant-loop-id : goal.invariant-loop-id
invariant-loop-id l = NoneBefore (types l.table) l.word l.ids (drop l.id-index l.ids)
