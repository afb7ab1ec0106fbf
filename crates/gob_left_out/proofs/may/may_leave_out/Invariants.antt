-- None of the pairs so far lacks a field.
use Rattle.gob_match.specs.declared.pair.TypePair.{TypePair}
use Rattle.gob_match.specs.Calls.Matched.{pairs_of}
use Rattle.gob_types.proofs.FirstLaws.{FirstAre}
use Rattle.gob_left_out.specs.LeftOut.{PairLacks}
use Rattle.gob_left_out.proofs.may.may_leave_out.Given as goal

abbrev pub invariant-loop-place : goal.invariant-loop-place
invariant-loop-place g l =
    FirstAre (λ (p : TypePair). ¬ PairLacks (g.S.Shapes.table l.stream) (g.T.Shapes.table l.wanted) p)
    (pairs_of l.matched) l.place
