use Rattle.gob_c.proofs.any_counter.AnyCounter.feed.Goals as goal

pub returns-in-Exact : goal.returns-in-Exact
returns-in-Exact c = rw c.in-Exact.is (record {
  counted = c.feed.ensures.counted;
  failed = c.feed.ensures.failed;
  stays = c.feed.ensures.stays;
  limits = c.feed.ensures.limits;
})

pub returns-in-Go : goal.returns-in-Go
returns-in-Go c = rw c.in-Go.is (record {
  counted = c.feed-in-Go.ensures.counted;
  failed = c.feed-in-Go.ensures.failed;
  stays = c.feed-in-Go.ensures.stays;
  limits = c.feed-in-Go.ensures.limits;
})
