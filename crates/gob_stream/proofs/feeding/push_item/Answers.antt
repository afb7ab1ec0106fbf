use Rattle.gob_stream.proofs.feeding.push_item.Goals as goal

pub returns-then-is_err-clause-as_before : goal.returns-then-is_err-clause-as_before
returns-then-is_err-clause-as_before g c = rw c.if-is_err.ensures.negation at c.push.ensures.items

pub returns-clause-given : goal.returns-clause-given
returns-clause-given g c = rw c.if-is_err.ensures.negation at c.push.ensures.items
