use Rattle.gob_handed.proofs.any_reader.AnyReader.finish.Goals as goal

pub returns-in-Exact : goal.returns-in-Exact
returns-in-Exact c = rw c.in-Exact.is (record {
  finished = c.finish.ensures.finished;
  whole = c.finish.ensures.whole;
  ended = c.finish.ensures.ended;
  failed = c.finish.ensures.failed;
  stays = c.finish.ensures.stays;
  begin = c.finish.ensures.begin;
  kept = c.finish.ensures.waiting;
  types = c.finish.ensures.types;
  limits = c.finish.ensures.limits;
})

pub returns-in-Go : goal.returns-in-Go
returns-in-Go c = rw c.in-Go.is (record {
  finished = c.finish-in-Go.ensures.finished;
  whole = c.finish-in-Go.ensures.whole;
  ended = c.finish-in-Go.ensures.ended;
  failed = c.finish-in-Go.ensures.failed;
  stays = c.finish-in-Go.ensures.stays;
  begin = c.finish-in-Go.ensures.begin;
  kept = c.finish-in-Go.ensures.waiting;
  types = c.finish-in-Go.ensures.types;
  limits = c.finish-in-Go.ensures.limits;
})
