-- What the reader and the texts answer.
use Rattle.std.proofs.Common.{◌∙◌, Bool, refl, true}
use Rattle.std.specs.Io.KnownBytes.{Appends}
use Rattle.gob_stream.specs.Bounds.{within_trees}
use Rattle.gob_stream.specs.Calls.Ends.{failed_reads, failed_writes, reader_of, writer_of}
use Rattle.gob_stream.specs.Calls.ReaderOf.{types_behind}
use Rattle.gob_stream.proofs.Reader.ReaderOfLaws.{goes_on, has_ended}
use Rattle.gob_filled.specs.Outcome.{profile}
use Rattle.gob_go.specs.Calls.Reader.{session_of}
use Rattle.gob_go.specs.Calls.Session.{limits_of}
use Rattle.gob_go.specs.GoStepping.{go_stepping}
use Rattle.gob_go.specs.Meaning.{ItemMeans}
use Rattle.gob_go.proofs.SessionAnswers.{stands}
use Rattle.gob_tool.specs.Answering.{AppendsPrefix}
use Rattle.gob_tool.specs.Ending.{CountsOnlyWrites}
use Rattle.gob_tool.specs.Fault.{reading_fault}
use Rattle.gob_tool.specs.Texts.{OfTexts}
use Rattle.gob_tool.proofs.EndLaws.{at_error}
use Rattle.gob_tool.proofs.TextLaws.{shown_stops}
use Rattle.gob_views.specs.Machine.PartStream.{CountsOnlyReads, FillsTexts, IsLineBy}
use Rattle.gob_views.proofs.EachRuns.{fill_counts, filled_so, no_reads_in, no_writes, reading_unwritten, waits_on}
use Rattle.gob_views.proofs.each.fill_texts.Goals as goal

pub returns-in_err-fill-clause-written : goal.returns-in_err-fill-clause-written
returns-in_err-fill-clause-written g c = λ read given h.
    let r = c.args.reader.now in
    let now = g.R.Read.remaining (reader_of c.fill.new.input) in
    let out = g.W.Write.contents (writer_of c.args.output.now) in
    let e = c.in_err-fill.field-0.0 in
    at_error (λ res. FillsTexts c.args.lines r c.fill.new.self read now given out out res) c.from_residual.result
    (reading_fault e) c.from_residual.ensures.1
    (λ bytes known start o.
    let L = within_trees (limits_of (session_of r)) in
    shown_stops profile L (types_behind go_stepping h) given bytes now
    (λ T items. OfTexts profile (IsLineBy c.args.lines) L bytes (Appends start out) items)
    (λ T items. OfTexts profile (IsLineBy c.args.lines) L bytes (AppendsPrefix start out) items) e
    (c.in_err-fill.ensures.filled read given h bytes known) o)

pub returns-in_err-fill-clause-reads : goal.returns-in_err-fill-clause-reads
returns-in_err-fill-clause-reads g c =
    let e = c.in_err-fill.field-0.0 in
    at_error (λ r. CountsOnlyReads (failed_reads c.args.input.now) (failed_reads c.fill.new.input) r)
    c.from_residual.result (reading_fault e) c.from_residual.ensures.1
    (fill_counts (Unit {0}) Bool (failed_reads c.args.input.now) (failed_reads c.fill.new.input) e
    c.in_err-fill.ensures.counted)

pub returns-in_err-fill-clause-writes : goal.returns-in_err-fill-clause-writes
returns-in_err-fill-clause-writes g c =
    let e = c.in_err-fill.field-0.0 in
    let old = failed_writes c.args.output.now in
    at_error (λ r. CountsOnlyWrites old old r) c.from_residual.result (reading_fault e) c.from_residual.ensures.1
    (no_writes (Unit {0}) old old (reading_fault e) (reading_unwritten e) refl)

pub returns-then-not-branch-clause-written : goal.returns-then-not-branch-clause-written
returns-then-not-branch-clause-written g c = λ read given h bytes known start o.
    let now = g.R.Read.remaining (reader_of c.fill.new.input) in
    let end = has_ended go_stepping (session_of c.args.reader.now) (types_behind go_stepping h) c.fill.new.self read now
    given c.in_ok-fill.field-0 c.if-not-branch.true (c.in_ok-fill.ensures.filled read given h) in
    absurd (waits_on bytes h known c.requires.some (end.0 bytes known))

pub write_next_texts-requires : goal.write_next_texts-requires
write_next_texts-requires g c =
    let so = c.requires.so_far in
    let next = g.R.Read.remaining (reader_of c.fill.new.input) in
    let on = goes_on go_stepping (session_of c.args.reader.now) (types_behind go_stepping so.has) c.fill.new.self
    so.read next so.given c.in_ok-fill.field-0 c.if-not-branch.false (c.in_ok-fill.ensures.filled so.read so.given
    so.has) in
    record {
      some = c.in_ok-fill.ensures.some c.if-not-branch.false;
      so_far = record {
        read = so.read;
        now = next;
        given = so.given;
        has = on.0;
        stands = stands true (λ T given i. ItemMeans T given i) (session_of c.fill.new.self);
      };
    }

pub returns-clause-written : goal.returns-clause-written
returns-clause-written g c = λ read given h.
    let next = g.R.Read.remaining (reader_of c.fill.new.input) in
    let on = goes_on go_stepping (session_of c.args.reader.now) (types_behind go_stepping h) c.fill.new.self read
    next given c.in_ok-fill.field-0 c.if-not-branch.false (c.in_ok-fill.ensures.filled read given h) in
    let old = g.W.Write.contents (writer_of c.args.output.now) in
    let new = g.W.Write.contents (writer_of c.write_next_texts.new.output) in
    filled_so c.args.lines c.args.reader.now c.fill.new.self c.write_next_texts.new.reader read next given old new
    c.write_next_texts.result on.1
    c.in_ok-fill.ensures.limits (c.write_next_texts.ensures.written read next given on.0)

pub returns-clause-limits : goal.returns-clause-limits
returns-clause-limits g c = c.write_next_texts.ensures.limits ∙ c.in_ok-fill.ensures.limits

pub returns-clause-reads : goal.returns-clause-reads
returns-clause-reads g c =
    no_reads_in (Unit {0}) (failed_reads c.args.input.now) (failed_reads c.fill.new.input) c.write_next_texts.result
    c.in_ok-fill.ensures.counted c.write_next_texts.ensures.unread

pub returns-clause-writes : goal.returns-clause-writes
returns-clause-writes g c = c.write_next_texts.ensures.writes
