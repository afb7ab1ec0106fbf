use Rattle.gob_lines.proofs.OrderLaws.{rearranged}
use Rattle.gob_lines.proofs.laws.definitions_stand_in_any_order.Goals as goal

pub returns : goal.returns
returns c = λ id s number ms ns r said. rearranged id s number ms ns r said
