-- The definitions up to the place, without those of the ids.
use Rattle.std.proofs.Common.{◌-◌, length}
use Rattle.gob_types.specs.Table.{Table}
use Rattle.gob_stream.specs.Bounds.{within_trees}
use Rattle.gob_salvage.specs.Fronts.{DefinesTypes}
use Rattle.gob_salvage.proofs.FrontLaws.{HasChosen}
use Rattle.gob_salvage.proofs.front.without.Given as goal

abbrev pub invariant-definitions : goal.invariant-definitions
invariant-definitions l = (T : Table) → DefinesTypes (within_trees l.limits) T l.definitions
    → HasChosen (within_trees l.limits) T l.definitions l.ids.keys l.at l.front.items

abbrev pub decreases-definitions : goal.decreases-definitions
decreases-definitions l = length l.definitions - l.at
