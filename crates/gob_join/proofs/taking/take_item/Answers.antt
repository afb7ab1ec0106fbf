use Rattle.gob_join.proofs.TakingLaws.{definition_taken, value_taken}
use Rattle.gob_join.proofs.taking.take_item.Goals as goal

pub returns-in_ok-push-in-Define-clause-taken : goal.returns-in_ok-push-in-Define-clause-taken
returns-in_ok-push-in-Define-clause-taken c = λ i items bytes h r m.
    definition_taken c.args.text.now.items c.in-Define.is h r m

pub returns-in_ok-put_value-in-Put-clause-taken : goal.returns-in_ok-put_value-in-Put-clause-taken
returns-in_ok-put_value-in-Put-clause-taken c = λ i items bytes h r m.
    let s = c.in_ok-settle-in-Put.ensures.settled items bytes h r in
    value_taken c.in-Put.is s m (c.in_ok-put_value-in-Put.ensures.taken _ _ s.on.put)
