use Rattle.gob_counted.proofs.GoLaws.{definition_told, value_told}
use Rattle.gob_counted.proofs.go_apart.GoSessionTellsApart.is_value.Goals as goal

pub returns-in-Define : goal.returns-in-Define
returns-in-Define c = λ T told means. definition_told c.in-Define.is means

pub returns-in-Put : goal.returns-in-Put
returns-in-Put c = λ T told means. value_told c.in-Put.is means
