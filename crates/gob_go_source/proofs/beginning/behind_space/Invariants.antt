-- What is left begins behind white space as the text does.
use Rattle.std.proofs.Common.{◌≡◌, length}
use Rattle.gob_go_source.specs.Beginning.{behind_space}
use Rattle.gob_go_source.proofs.beginning.behind_space.Given as goal

abbrev pub invariant-loop-left : goal.invariant-loop-left
invariant-loop-left l = behind_space l.left ≡ behind_space l.fn.text

abbrev pub decreases-loop-left : goal.decreases-loop-left
decreases-loop-left l = length l.left
