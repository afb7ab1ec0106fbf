-- What was sent so far is out, and no write failed.
use Rattle.std.proofs.Common.{◌≡◌, ◌-◌, ◌≤◌, length, take}
use Rattle.std.specs.Io.KnownBytes.{Appends}
use Rattle.gob_stream.proofs.output.Output.send_all.Given as goal

abbrev pub invariant-loop-sent : goal.invariant-loop-sent
invariant-loop-sent g l = record {
  within : l.sent ≤ length l.bytes;
  out : Appends (g.W.Write.contents l.fn.self.writer) (g.W.Write.contents l.self.writer) (take l.sent l.bytes);
  sound : l.self.failures ≡ l.fn.self.failures;
}

abbrev pub decreases-loop-sent : goal.decreases-loop-sent
decreases-loop-sent g l = length l.bytes - l.sent
