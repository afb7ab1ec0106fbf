-- What a `CheckBuilder` counted is counted of the value.
use Rattle.std.proofs.Common.{◌≡◌, ◌+◌, List, ◌∙◌, arith}
use Rattle.gob_value.specs.Tree.{Tree}
use Rattle.gob_read.specs.declared.check_builder.Counts.{Counts}
use Rattle.gob_read.specs.Event.{Event, HasEvents}
use Rattle.gob_read.specs.Weight.{weight}
use Rattle.gob_read.specs.Counts.{AreCountsOfEvents, AreCountsOf}
use Rattle.gob_read.proofs.Events.CountLaws.{tells_counts}

pub told_counts : (counts : Counts) (us : List Event) (v : Tree) → AreCountsOfEvents counts us → HasEvents v us
    → AreCountsOf counts v
told_counts counts us v c t = let d = tells_counts t in record { nodes = c.nodes ∙ d.parts; raw = c.raw ∙ d.raw }

-- both counts together
pub counts_weight : (counts : Counts) (v : Tree) → AreCountsOf counts v → counts.nodes + counts.raw ≡ weight v
counts_weight counts v c = omega (arith, c.nodes, c.raw)
