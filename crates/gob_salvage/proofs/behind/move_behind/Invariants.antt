-- So many are told so, and the others stand as they were.
use Rattle.std.proofs.Common.{◌≡◌, ◌++◌, drop, take}
use Rattle.gob_salvage.specs.Behind.{gaps_behind}
use Rattle.gob_salvage.proofs.behind.move_behind.Given as goal

abbrev pub invariant-loop-gap : goal.invariant-loop-gap
invariant-loop-gap l = l.gaps ≡ gaps_behind l.count (take l.gap-index l.fn.gaps) ++ drop l.gap-index l.fn.gaps
