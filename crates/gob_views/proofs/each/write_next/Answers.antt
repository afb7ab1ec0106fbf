-- The lines of the item that was printed, or of what was whole.
use Rattle.gob_stream.specs.Calls.Ends.{failed_reads, failed_writes, reader_of, writer_of}
use Rattle.gob_go.specs.Calls.Reader.{GoReader}
use Rattle.gob_tool.specs.Ending.{CountsOnlyWrites}
use Rattle.gob_tool.specs.declared.fault.ToolFault.TheVariants as fault
use Rattle.gob_tool.proofs.EndLaws.{at_error}
use Rattle.gob_views.specs.Machine.PartStream.{CountsOnlyReads, WritesLines}
use Rattle.gob_views.proofs.EachRuns.{lines_of_filled, lines_of_printed, no_lines, reads_as, writes_as}
use Rattle.gob_views.proofs.each.write_next.Goals as goal

pub returns-in_err-begun-clause-written : goal.returns-in_err-begun-clause-written
returns-in_err-begun-clause-written g c = λ read given h.
    let now = g.R.Read.remaining (reader_of c.args.input.now) in
    let out = g.W.Write.contents (writer_of c.args.output.now) in
    at_error (λ res. WritesLines c.args.lines c.args.reader read now given out out res) c.from_residual.result
    fault.Memory c.from_residual.ensures.1 (no_lines c.args.lines c.args.reader out h)

pub print_value-requires : goal.print_value-requires
print_value-requires g c = record {
  between = rw c.in-Some.is at c.in_ok-begun.ensures.between;
  begun = rw c.in-Some.is at c.in_ok-begun.ensures.begun;
  so_far = c.requires.so_far;
}

pub returns-in-Some-clause-written : goal.returns-in-Some-clause-written
returns-in-Some-clause-written g c = λ read given h.
    let next = g.R.Read.remaining (reader_of c.print_value.new.input) in
    let old = g.W.Write.contents (writer_of c.args.output.now) in
    let new = g.W.Write.contents (writer_of c.print_value.new.output) in
    lines_of_printed c.args.lines c.args.reader read next given old new c.print_value.result
    c.print_value.ensures.limits c.print_value.ensures.between (c.print_value.ensures.printed read given h)

pub returns-in_err-fill_texts-clause-written : goal.returns-in_err-fill_texts-clause-written
returns-in_err-fill_texts-clause-written g c = λ read given h.
    let next = g.R.Read.remaining (reader_of c.fill_texts.new.input) in
    let old = g.W.Write.contents (writer_of c.args.output.now) in
    let new = g.W.Write.contents (writer_of c.fill_texts.new.output) in
    let f = c.in_err-fill_texts.field-0.0 in
    at_error (λ res. WritesLines c.args.lines c.args.reader read next given old new res)
    c.from_residual-in_err-fill_texts.result f c.from_residual-in_err-fill_texts.ensures.1
    (lines_of_filled c.args.lines c.args.reader c.fill_texts.new.reader read next given old new f
    (c.in_err-fill_texts.ensures.written read given h))

pub returns-in_err-fill_texts-clause-reads : goal.returns-in_err-fill_texts-clause-reads
returns-in_err-fill_texts-clause-reads g c =
    let f = c.in_err-fill_texts.field-0.0 in
    let old = failed_reads c.args.input.now in
    let new = failed_reads c.fill_texts.new.input in
    at_error (λ r. CountsOnlyReads old new r) c.from_residual-in_err-fill_texts.result f
    c.from_residual-in_err-fill_texts.ensures.1
    (reads_as (Unit {0}) GoReader old new f c.in_err-fill_texts.ensures.reads)

pub returns-in_err-fill_texts-clause-writes : goal.returns-in_err-fill_texts-clause-writes
returns-in_err-fill_texts-clause-writes g c =
    let f = c.in_err-fill_texts.field-0.0 in
    let old = failed_writes c.args.output.now in
    let new = failed_writes c.fill_texts.new.output in
    at_error (λ r. CountsOnlyWrites old new r) c.from_residual-in_err-fill_texts.result f
    c.from_residual-in_err-fill_texts.ensures.1
    (writes_as (Unit {0}) GoReader old new f c.in_err-fill_texts.ensures.writes)

pub returns-clause-written : goal.returns-clause-written
returns-clause-written g c = λ read given h. c.in_ok-fill_texts.ensures.written read given h
