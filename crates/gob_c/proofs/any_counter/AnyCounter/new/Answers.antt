use Rattle.gob_c.proofs.any_counter.AnyCounter.new.Goals as goal

pub returns-then-exact : goal.returns-then-exact
returns-then-exact c = record {
  new = record {
    counted = c.in_ok-new.ensures.counted c.sessions_are_countable.ensures.strict;
    limits_are = c.in_ok-new.ensures.limits;
  };
  exact = rw c.if-exact.true tt;
}

pub returns : goal.returns
returns c = record {
  new = record {
    counted = c.in_ok-new-2.ensures.counted c.sessions_are_countable.ensures.go;
    limits_are = c.in_ok-new-2.ensures.limits;
  };
  exact = rw c.if-exact.false tt;
}
