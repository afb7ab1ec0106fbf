use Rattle.gob_counted.proofs.StrictLaws.{definition_told, value_told}
use Rattle.gob_counted.proofs.strict_apart.SessionTellsApart.is_value.Goals as goal

pub returns-in-Define : goal.returns-in-Define
returns-in-Define g c = λ T told means. definition_told g.B.Builder.building c.in-Define.is means

pub returns-in-Put : goal.returns-in-Put
returns-in-Put g c = λ T told means. value_told g.B.Builder.building c.in-Put.is means
