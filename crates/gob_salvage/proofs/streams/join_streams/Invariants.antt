-- The first streams are joined.
use Rattle.gob_stream.specs.Bounds.{within_trees}
use Rattle.gob_salvage.specs.Joined.{HasJoined}
use Rattle.gob_salvage.proofs.streams.join_streams.Given as goal

abbrev pub invariant-streams : goal.invariant-streams
invariant-streams l = HasJoined (within_trees l.limits) l.bytes l.joined
