use Rattle.json_parts.proofs.PartLaws.{none_left}
use Rattle.json_parts.proofs.parts.Parts.next.Goals as goal

pub returns-in_default-clause-next : goal.returns-in_default-clause-next
returns-in_default-clause-next c = λ left h. none_left c.in_default.ensures.value h
