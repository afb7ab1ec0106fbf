use Rattle.gob_handed.proofs.any_reader.AnyReader.shape.Goals as goal

pub returns-in-Exact : goal.returns-in-Exact
returns-in-Exact c = rw c.in-Exact.is (record {
  nodes = c.shape.ensures.nodes;
  bytes = c.shape.ensures.bytes;
  found = c.shape.ensures.found;
  within = c.shape.ensures.within;
  fits = c.shape.ensures.room;
  known = c.shape.ensures.known;
  unknown = c.shape.ensures.unknown;
})

pub returns-in-Go : goal.returns-in-Go
returns-in-Go c = rw c.in-Go.is (record {
  nodes = c.shape-in-Go.ensures.nodes;
  bytes = c.shape-in-Go.ensures.bytes;
  found = c.shape-in-Go.ensures.found;
  within = c.shape-in-Go.ensures.within;
  fits = c.shape-in-Go.ensures.room;
  known = c.shape-in-Go.ensures.known;
  unknown = c.shape-in-Go.ensures.unknown;
})
