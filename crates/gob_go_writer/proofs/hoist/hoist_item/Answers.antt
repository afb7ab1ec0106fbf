use Rattle.gob_go_writer.proofs.HoistSteps.{definition_hoisted, put_hoisted}
use Rattle.gob_go_writer.proofs.hoist.hoist_item.Goals as goal

pub returns-in_ok-push-in-Define : goal.returns-in_ok-push-in-Define
returns-in_ok-push-in-Define c = definition_hoisted c.in-Define.is c.in_ok-push-in-Define.ensures.items

pub returns-in_ok-push-in-Put : goal.returns-in_ok-push-in-Put
returns-in_ok-push-in-Put c = put_hoisted c.in-Put.is c.in_ok-value-in-Put.ensures c.in_ok-push-in-Put.ensures.items
