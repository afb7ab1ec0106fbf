-- The run of the command reads the bytes to their end, or to where it stops.
use Rattle.std.proofs.Common.{Some, ap}
use Rattle.gob_views.proofs.RunLaws.{writes_in_memory}
use Rattle.gob_views.proofs.run.show_bytes.Goals as goal

pub returns-clause-shows : goal.returns-clause-shows
returns-clause-shows g c = record {
  left = _;
  answer = c.run_command.result;
  shows = c.run_command.ensures.shows c.args.bytes.now (ap (λ r. Some r.now) c.new-input.ensures.reader);
  is = c.in_memory.ensures;
}

pub returns-clause-writes : goal.returns-clause-writes
returns-clause-writes g c =
    writes_in_memory _ _ c.run_command.result c.in_memory.result c.in_memory.ensures c.run_command.ensures.writes
