-- What is sent of what waits is in the writer below.
use Rattle.std.proofs.KnownBytes.{Keeps-trans}
use Rattle.json_number_texts.proofs.WriterLaws.{sent_on}
use Rattle.json_number_texts.proofs.writer.TextsWriter.send.Goals as goal

pub loop-self-preserved : goal.loop-self-preserved
loop-self-preserved g c = record {
  kept = Keeps-trans _ _ _ c.loop-self.invariant.kept (sent_on _ _ c.loop-self.self.text.items _
      c.loop-self.self.sent c.in_ok-count.count c.deref.ensures.value c.in_ok-count.ensures.bytes);
  place = c.loop-self.invariant.place;
}
