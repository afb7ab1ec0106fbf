use Rattle.gob_c.proofs.any_counter.AnyCounter.finish.Goals as goal

pub returns-in-Exact : goal.returns-in-Exact
returns-in-Exact c = rw c.in-Exact.is (record {
  ended = c.finish.ensures.ended;
  whole = c.finish.ensures.whole;
  tally = c.finish.ensures.tally;
  failed = c.finish.ensures.failed;
  stays = c.finish.ensures.stays;
  limits = c.finish.ensures.limits;
})

pub returns-in-Go : goal.returns-in-Go
returns-in-Go c = rw c.in-Go.is (record {
  ended = c.finish-in-Go.ensures.ended;
  whole = c.finish-in-Go.ensures.whole;
  tally = c.finish-in-Go.ensures.tally;
  failed = c.finish-in-Go.ensures.failed;
  stays = c.finish-in-Go.ensures.stays;
  limits = c.finish-in-Go.ensures.limits;
})
