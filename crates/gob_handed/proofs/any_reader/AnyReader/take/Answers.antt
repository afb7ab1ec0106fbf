use Rattle.gob_handed.proofs.any_reader.AnyReader.take.Goals as goal

pub returns-in-Exact : goal.returns-in-Exact
returns-in-Exact c = rw c.in-Exact.is (record {
  handed = c.take.ensures.handed;
  room = c.take.ensures.room;
  next = c.take.ensures.next;
  count = c.take.ensures.count;
  within = c.take.ensures.within;
  left = c.take.ensures.left;
  session = c.take.ensures.session;
  begin = c.take.ensures.begin;
  kept = c.take.ensures.waiting;
})

pub returns-in-Go : goal.returns-in-Go
returns-in-Go c = rw c.in-Go.is (record {
  handed = c.take-in-Go.ensures.handed;
  room = c.take-in-Go.ensures.room;
  next = c.take-in-Go.ensures.next;
  count = c.take-in-Go.ensures.count;
  within = c.take-in-Go.ensures.within;
  left = c.take-in-Go.ensures.left;
  session = c.take-in-Go.ensures.session;
  begin = c.take-in-Go.ensures.begin;
  kept = c.take-in-Go.ensures.waiting;
})
