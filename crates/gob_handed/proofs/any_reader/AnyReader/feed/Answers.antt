use Rattle.gob_handed.proofs.any_reader.AnyReader.feed.Goals as goal

pub returns-in-Exact : goal.returns-in-Exact
returns-in-Exact c = rw c.in-Exact.is (record {
  fed = c.feed.ensures.fed;
  shown = c.feed.ensures.shown;
  failed = c.feed.ensures.failed;
  stays = c.feed.ensures.stays;
  limits = c.feed.ensures.limits;
})

pub returns-in-Go : goal.returns-in-Go
returns-in-Go c = rw c.in-Go.is (record {
  fed = c.feed-in-Go.ensures.fed;
  shown = c.feed-in-Go.ensures.shown;
  failed = c.feed-in-Go.ensures.failed;
  stays = c.feed-in-Go.ensures.stays;
  limits = c.feed-in-Go.ensures.limits;
})
