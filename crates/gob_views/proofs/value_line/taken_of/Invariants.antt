-- So many of them are taken.
use Rattle.std.proofs.Common.{take}
use Rattle.gob_views.specs.Values.{AreTaken}
use Rattle.gob_views.proofs.value_line.taken_of.Given as goal

abbrev pub invariant-loop-said : goal.invariant-loop-said
invariant-loop-said l = AreTaken (take l.said-index l.kinds) l.taken.items
