use Rattle.std.proofs.Common.{◌∙◌, ap, refl, take}
use Rattle.gob_stream.specs.Calls.Ends.{reader_of, writer_of}
use Rattle.gob_write.specs.Running.{IsPart, WriteTextsAnswers}
use Rattle.gob_write.specs.declared.fault.LinesFault.TheVariants as fault
use Rattle.gob_write.proofs.RunLaws.{nothing_written, begun, ended, unread_text, one_text, text_stops, so_far}
use Rattle.gob_write.proofs.RunLaws.{err_result, no_read_counted}
use Rattle.gob_write.proofs.run.write_texts.Goals as goal

pub returns-in_err-waiting-clause-written : goal.returns-in_err-waiting-clause-written
returns-in_err-waiting-clause-written g c = λ S start bytes within h sent e.
    let now = g.W.Write.contents (writer_of c.args.output.now) in
    err_result (WriteTextsAnswers S c.args.most bytes start now) c.from_residual.result fault.Memory
    c.from_residual.ensures.1 (nothing_written S c.args.most c.args.writer.now bytes start now h sent)

pub texts-init : goal.texts-init
texts-init g c = record {
  read = λ S start bytes within h sent e. begun S c.args.most c.args.writer.now c.in_ok-waiting.waiting bytes
      _ start _ c.first-place.result h sent c.in_ok-waiting.ensures.none e c.first-place.ensures;
  reads = refl;
  writes = refl;
}

pub returns-in_err-count-clause-written : goal.returns-in_err-count-clause-written
returns-in_err-count-clause-written g c = λ S start bytes within h sent e.
    let now = g.W.Write.contents (writer_of c.next_text.new.output) in
    err_result (WriteTextsAnswers S c.args.most bytes start now)
    c.from_residual-in_err-count.result c.in_err-count.field-0.0 c.from_residual-in_err-count.ensures.1
    (unread_text c.in_err-count.field-0.0 c.next_text.new.buffered
    (g.R.Read.remaining (reader_of c.next_text.new.input)) now c.in_err-count.ensures.sent
    (c.texts.invariant.read S start bytes within h sent e) c.in_err-count.ensures.text)

pub returns-then-count-eq0-clause-written : goal.returns-then-count-eq0-clause-written
returns-then-count-eq0-clause-written g c = λ S start bytes within h sent e.
    ended c.in_ok-count.count c.next_text.new.buffered _ _ c.in_ok-count.ensures.sent
    (c.texts.invariant.read S start bytes within h sent e) c.in_ok-count.ensures.text c.if-count-eq0.true

pub returns-in_err-write-clause-written : goal.returns-in_err-write-clause-written
returns-in_err-write-clause-written g c = λ S start bytes within h sent e.
    let now = g.W.Write.contents (writer_of c.write.new.output) in
    err_result (WriteTextsAnswers S c.args.most bytes start now)
    c.from_residual-in_err-write.result c.in_err-write.field-0.0 c.from_residual-in_err-write.ensures.1
    (text_stops c.write.new.self _ now c.in_ok-count.count c.in_err-write.field-0.0
    (c.texts.invariant.read S start bytes within h sent e)
    c.in_ok-count.ensures.sent c.in_ok-count.ensures.text c.if-count-eq0.false
    (ap (take c.in_ok-count.count) c.bytes.ensures)
    (λ items out T written. c.in_err-write.ensures.says S items out T within written))

pub texts-preserved : goal.texts-preserved
texts-preserved g c = record {
  read = λ S start bytes within h sent e.
      one_text c.behind-place.result c.in_ok-count.count (c.texts.invariant.read S start bytes within h sent e)
      c.in_ok-count.ensures.sent c.in_ok-count.ensures.text c.if-count-eq0.false
      (ap (take c.in_ok-count.count) c.bytes.ensures) c.pass.ensures.bytes c.behind-place.ensures
      (λ items out T written. c.in_ok-write.ensures.says S items out T within written);
  reads = c.in_ok-count.ensures.reads ∙ c.texts.invariant.reads;
  writes = c.in_ok-write.ensures.counted ∙ c.in_ok-count.ensures.writes ∙ c.texts.invariant.writes;
}

pub returns-in_err-write-clause-reads : goal.returns-in_err-write-clause-reads
returns-in_err-write-clause-reads g c =
    no_read_counted _ _ c.in_err-write.field-0.0 c.from_residual-in_err-write.result
    c.from_residual-in_err-write.ensures.1 c.in_err-write.ensures.unread
    (c.in_ok-count.ensures.reads ∙ c.texts.invariant.reads)

pub returns-clause-written : goal.returns-clause-written
returns-clause-written g c = λ S start bytes within h sent e.
    so_far IsPart (c.texts.invariant.read S start bytes within h sent e) tt
