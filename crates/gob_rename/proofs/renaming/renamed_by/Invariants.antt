-- Those so far fit.
use Rattle.gob_types.specs.Defined.{types}
use Rattle.gob_rename.proofs.FitLaws.{FirstFit}
use Rattle.gob_rename.proofs.renaming.renamed_by.Given as goal

abbrev pub invariant-loop-number : goal.invariant-loop-number
invariant-loop-number l = FirstFit l.fn.renames (types l.fn.table) l.number
