-- What the writer below has and what waits stay the same, whatever was sent.
use Rattle.std.proofs.Common.{◌≡◌, ◌-◌, length}
use Rattle.std.specs.Io.KnownBytes.{Keeps}
use Rattle.json_number_texts.specs.Writer.{passed_on}
use Rattle.json_number_texts.proofs.writer.TextsWriter.send.Given as goal

abbrev pub invariant-loop-self : goal.invariant-loop-self
invariant-loop-self g l = record {
  kept : Keeps (passed_on g.W.Write.contents l.fn.self) (passed_on g.W.Write.contents l.self);
  place : l.self.place ≡ l.fn.self.place;
}

abbrev pub decreases-loop-self : goal.decreases-loop-self
decreases-loop-self g l = length l.self.text.items - l.self.sent
