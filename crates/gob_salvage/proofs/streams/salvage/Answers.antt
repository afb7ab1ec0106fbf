use Rattle.gob_salvage.specs.Streams.{of_one}
use Rattle.gob_salvage.proofs.StreamsLaws.{behind_nothing}
use Rattle.gob_salvage.proofs.streams.salvage.Goals as goal

pub returns-then-is_none : goal.returns-then-is_none
returns-then-is_none c = of_one (behind_nothing c.in_ok-first.ensures.salvage)

pub returns-in-None : goal.returns-in-None
returns-in-None c = of_one (behind_nothing c.in_ok-first.ensures.salvage)
