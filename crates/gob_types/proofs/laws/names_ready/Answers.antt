use Rattle.gob_types.proofs.GrowthLaws as growth
use Rattle.gob_types.proofs.laws.names_ready.Goals as goal

pub returns : goal.returns
returns c T t u s = growth.names_ready
