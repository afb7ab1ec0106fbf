-- What fills the nils so far, with what fills the rest, fills all.
use Rattle.std.proofs.Common.{drop}
use Rattle.gob_plain.specs.Machine.Placing.{fillers_left, gaps_left}
use Rattle.gob_plain.proofs.PlacingLaws.{InSoFar}
use Rattle.gob_plain.proofs.go.placing.in_nils.Given as goal

abbrev pub invariant-loop-nil : goal.invariant-loop-nil
invariant-loop-nil l =
    InSoFar l.nils l.gaps l.fn.fillers.items l.left.behind (drop l.nil-index l.nils) (gaps_left l.left)
    (fillers_left l.left) l.parted.texts.items l.parted.held.items
