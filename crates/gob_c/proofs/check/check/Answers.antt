use Rattle.gob_c.proofs.check.check.Goals as goal

pub returns-then-exact : goal.returns-then-exact
returns-then-exact c = rw c.if-exact.true (c.check_bytes.ensures c.sessions_are_countable.ensures.strict)

pub returns : goal.returns
returns c = rw c.if-exact.false (c.check_bytes-2.ensures c.sessions_are_countable.ensures.go)
