-- What came to the skeleton so far.
use Rattle.gob_types.specs.Defined.{types}
use Rattle.gob_types.specs.declared.id.TypeId.{TypeId}
use Rattle.gob_filled_match.specs.Machine.Taking.{StandsInNumbers, StandsSomewhere, TakesOn}
use Rattle.gob_filled_match.proofs.taking.take_nils.Given as goal

abbrev pub invariant-nils : goal.invariant-nils
invariant-nils l =
    StandsSomewhere (types l.table) l.numbered l.at l.reader l.skeleton
    × ((u : TypeId) → StandsInNumbers (types l.table) u l.numbered 0 l.fn.reader l.fn.skeleton
    → TakesOn (types l.table) u l.numbered 0 l.at l.fn.skeleton l.skeleton l.reader)
