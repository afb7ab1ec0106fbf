use Rattle.std.proofs.Common.{◌∙◌, ap, refl, take}
use Rattle.gob_stream.specs.Calls.Ends.{reader_of, writer_of}
use Rattle.gob_write.specs.Grammar.{IsAnywhere, RunAnswers}
use Rattle.gob_write.specs.Shown.{filled_lines}
use Rattle.gob_write.specs.declared.fault.LinesFault.TheVariants as fault
use Rattle.gob_write.proofs.ShownRunLaws.{no_line_written, begun, ended, unread_line, one_line, line_stops, so_far}
use Rattle.gob_write.proofs.RunLaws.{err_result, no_read_counted}
use Rattle.gob_write.proofs.shown.write_shown.Goals as goal

pub returns-in_err-waiting-clause-written : goal.returns-in_err-waiting-clause-written
returns-in_err-waiting-clause-written g c = λ H L start bytes h sent e.
    let now = g.W.Write.contents (writer_of c.args.output.now) in
    err_result (RunAnswers (filled_lines H L) c.args.most bytes start now) c.from_residual.result fault.Memory
    c.from_residual.ensures.1 (no_line_written H L c.args.most c.args.writer.now bytes start now h sent)

pub loop-number-init : goal.loop-number-init
loop-number-init g c = record {
  read = λ H L start bytes h sent e. begun H L c.args.most c.args.writer.now c.in_ok-waiting.waiting bytes
      _ start _ h sent c.in_ok-waiting.ensures.none e;
  reads = refl;
  writes = refl;
}

pub returns-in_err-count-clause-written : goal.returns-in_err-count-clause-written
returns-in_err-count-clause-written g c = λ H L start bytes h sent e.
    let now = g.W.Write.contents (writer_of c.next_line.new.output) in
    err_result (RunAnswers (filled_lines H L) c.args.most bytes start now)
    c.from_residual-in_err-count.result c.in_err-count.field-0.0 c.from_residual-in_err-count.ensures.1
    (unread_line c.in_err-count.field-0.0 c.next_line.new.buffered
    (g.R.Read.remaining (reader_of c.next_line.new.input)) now c.in_err-count.ensures.sent
    (c.loop-number.invariant.read H L start bytes h sent e) c.in_err-count.ensures.line)

pub returns-then-count-eq0-clause-written : goal.returns-then-count-eq0-clause-written
returns-then-count-eq0-clause-written g c = λ H L start bytes h sent e.
    ended c.in_ok-count.count c.next_line.new.buffered _ _ c.in_ok-count.ensures.sent
    (c.loop-number.invariant.read H L start bytes h sent e) c.in_ok-count.ensures.line c.if-count-eq0.true

pub returns-in_err-write-clause-written : goal.returns-in_err-write-clause-written
returns-in_err-write-clause-written g c = λ H L start bytes h sent e.
    let now = g.W.Write.contents (writer_of c.write.new.output) in
    err_result (RunAnswers (filled_lines H L) c.args.most bytes start now)
    c.from_residual-in_err-write.result c.in_err-write.field-0.0 c.from_residual-in_err-write.ensures.1
    (line_stops c.write.new.self _ now c.in_ok-count.count c.in_err-write.field-0.0
    (c.loop-number.invariant.read H L start bytes h sent e)
    c.in_ok-count.ensures.sent c.in_ok-count.ensures.line c.if-count-eq0.false
    (ap (take c.in_ok-count.count) c.bytes.ensures)
    (λ items out T written. c.in_err-write.ensures.says H L items out T written))

pub loop-number-preserved : goal.loop-number-preserved
loop-number-preserved g c = record {
  read = λ H L start bytes h sent e.
      one_line c.in_ok-count.count (c.loop-number.invariant.read H L start bytes h sent e)
      c.in_ok-count.ensures.sent c.in_ok-count.ensures.line c.if-count-eq0.false
      (ap (take c.in_ok-count.count) c.bytes.ensures) c.pass.ensures.bytes
      (λ items out T written. c.in_ok-write.ensures.says H L items out T written);
  reads = c.in_ok-count.ensures.reads ∙ c.loop-number.invariant.reads;
  writes = c.in_ok-write.ensures.counted ∙ c.in_ok-count.ensures.writes ∙ c.loop-number.invariant.writes;
}

pub returns-in_err-write-clause-reads : goal.returns-in_err-write-clause-reads
returns-in_err-write-clause-reads g c =
    no_read_counted _ _ c.in_err-write.field-0.0 c.from_residual-in_err-write.result
    c.from_residual-in_err-write.ensures.1 c.in_err-write.ensures.unread
    (c.in_ok-count.ensures.reads ∙ c.loop-number.invariant.reads)

pub returns-clause-written : goal.returns-clause-written
returns-clause-written g c = λ H L start bytes h sent e.
    so_far IsAnywhere (c.loop-number.invariant.read H L start bytes h sent e) tt
