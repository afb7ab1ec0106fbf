-- More ids stand for these types.
use Rattle.gob_join.specs.Renaming.{among}
use Rattle.gob_join.specs.Machine.Numbered.{NumbersSome}
use Rattle.gob_join.proofs.numbering.keep_ids.Given as goal

abbrev pub invariant-loop-id : goal.invariant-loop-id
invariant-loop-id l = NumbersSome l.ids (among l.fn.renaming) (among l.renaming)
