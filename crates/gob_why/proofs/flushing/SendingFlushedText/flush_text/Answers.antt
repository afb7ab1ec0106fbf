-- What was put out stays as it is.
use Rattle.std.proofs.Common.{refl}
use Rattle.gob_stream.specs.Calls.Ends.{failed_writes, writer_of}
use Rattle.gob_why.proofs.SendingLaws.{flush_sends}
use Rattle.gob_why.proofs.flushing.SendingFlushedText.flush_text.Goals as goal

pub returns : goal.returns
returns g c =
    let old = c.args.self.now.output.now in
    let new = c.flush_written.new.self in (
      refl,
      flush_sends (g.W.Write.contents (writer_of old)) (g.W.Write.contents (writer_of new)) c.flush_written.result
          c.flush_written.ensures.bytes c.flush_written.ensures.fault,
      c.flush_written.ensures.counted,
    )
