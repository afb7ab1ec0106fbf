-- The rest of the steps leads on from the pair.
use Rattle.std.proofs.Common.{drop}
use Rattle.gob_types.specs.Defined.{types}
use Rattle.gob_match.specs.Clashing.{LeadsBySteps}
use Rattle.gob_match.specs.declared.pair.TypePair.{TypePair}
use Rattle.gob_convert.proofs.clashing.pair_at.Given as goal

abbrev pub invariant-loop-step : goal.invariant-loop-step
invariant-loop-step l = (last : TypePair)
    → LeadsBySteps (types l.stream) (types l.wanted) l.path l.fn.start last
    → LeadsBySteps (types l.stream) (types l.wanted) (drop l.step-index l.path) l.pair last
