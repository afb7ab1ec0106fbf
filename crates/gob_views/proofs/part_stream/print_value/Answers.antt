-- What the reader that keeps nothing has printed.
use Rattle.std.proofs.Common.{◌∙◌, ap}
use Rattle.gob_types.specs.Defined.{Defined, types}
use Rattle.gob_stream.specs.Calls.Ends.{failed_reads, failed_writes, reader_of, writer_of}
use Rattle.gob_go.specs.Calls.Reader.{GoReader}
use Rattle.gob_tool.specs.Ending.{CountsOnlyWrites}
use Rattle.gob_tool.proofs.EndLaws.{at_error}
use Rattle.gob_views.specs.Machine.PartStream.{CountsOnlyReads, PrintsValue}
use Rattle.gob_views.proofs.EachRuns.{begun_there, prints_as, reads_as, stops_as, writes_as}
use Rattle.gob_views.proofs.part_stream.print_value.Goals as goal

pub print_parts-requires : goal.print_parts-requires
print_parts-requires g c =
    let p = c.into_passing-passing.ensures in
    let so = c.requires.so_far in
    record {
      between = p.between;
      begun = begun_there p.limits (ap (λ (d : Defined). types d) p.table) p.waits c.requires.begun;
      so_far = record {
        read = so.read;
        given = so.given;
        has = p.read so.read (g.R.Read.remaining (reader_of c.args.input.now)) so.given so.has;
      };
    }

pub returns-in_err-print_parts-clause-printed : goal.returns-in_err-print_parts-clause-printed
returns-in_err-print_parts-clause-printed g c = λ read given h.
    let p = c.into_passing-passing.ensures in
    let now = g.R.Read.remaining (reader_of c.args.input.now) in
    let next = g.R.Read.remaining (reader_of c.print_parts.new.input) in
    let old = g.W.Write.contents (writer_of c.args.output.now) in
    let new = g.W.Write.contents (writer_of c.print_parts.new.output) in
    at_error (λ res. PrintsValue c.args.lines c.args.reader read next given old new res) c.from_residual.result
    c.in_err-print_parts.field-0.0 c.from_residual.ensures.1
    (stops_as c.args.lines c.args.reader c.into_passing-passing.result read next given old new
    c.in_err-print_parts.field-0.0 p.limits
    (c.in_err-print_parts.ensures.printed read given (p.read read now given h)))

pub returns-in_err-print_parts-clause-reads : goal.returns-in_err-print_parts-clause-reads
returns-in_err-print_parts-clause-reads g c =
    let f = c.in_err-print_parts.field-0.0 in
    let old = failed_reads c.args.input.now in
    let new = failed_reads c.print_parts.new.input in
    at_error (λ r. CountsOnlyReads old new r) c.from_residual.result f c.from_residual.ensures.1
    (reads_as (Unit {0}) GoReader old new f c.in_err-print_parts.ensures.reads)

pub returns-in_err-print_parts-clause-writes : goal.returns-in_err-print_parts-clause-writes
returns-in_err-print_parts-clause-writes g c =
    let f = c.in_err-print_parts.field-0.0 in
    let old = failed_writes c.args.output.now in
    let new = failed_writes c.print_parts.new.output in
    at_error (λ r. CountsOnlyWrites old new r) c.from_residual.result f c.from_residual.ensures.1
    (writes_as (Unit {0}) GoReader old new f c.in_err-print_parts.ensures.writes)

pub into_keeping-requires : goal.into_keeping-requires
into_keeping-requires g c = record { between = c.in_ok-print_parts.ensures.between }

pub returns-clause-printed : goal.returns-clause-printed
returns-clause-printed g c = λ read given h.
    let p = c.into_passing-passing.ensures in
    let k = c.into_keeping.ensures in
    let now = g.R.Read.remaining (reader_of c.args.input.now) in
    let next = g.R.Read.remaining (reader_of c.print_parts.new.input) in
    let old = g.W.Write.contents (writer_of c.args.output.now) in
    let new = g.W.Write.contents (writer_of c.print_parts.new.output) in
    prints_as {s = c.into_passing-passing.result} {s' = c.print_parts.new.reader} old new p.taken k.taken k.table
    (λ all has. k.read read next all has)
    (c.in_ok-print_parts.ensures.printed read given (p.read read now given h))

pub returns-clause-limits : goal.returns-clause-limits
returns-clause-limits g c =
    c.into_keeping.ensures.limits ∙ c.in_ok-print_parts.ensures.limits ∙ c.into_passing-passing.ensures.limits
