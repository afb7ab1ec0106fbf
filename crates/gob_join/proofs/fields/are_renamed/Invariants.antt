-- The fields so far are renamed.
use Rattle.std.proofs.Common.{take}
use Rattle.gob_join.specs.Renaming.{AreRenamedFields}
use Rattle.gob_join.proofs.fields.are_renamed.Given as goal

abbrev pub invariant-loop-place : goal.invariant-loop-place
invariant-loop-place g l = AreRenamedFields (g.N.NewIds.ids l.ids) (take l.place l.fields) (take l.place l.others)
