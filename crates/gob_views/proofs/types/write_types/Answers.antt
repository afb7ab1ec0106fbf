-- The source of the types that were read goes out, of a whole stream and of one that is refused.
use Rattle.std.proofs.Common.{Err, Ok, ap, rules, subst, sym}
use Rattle.std.proofs.KnownBytes.{Appends-nil}
use Rattle.gob_types.specs.Defined.{types}
use Rattle.gob_stream.specs.Bounds.{Bounds, within_trees}
use Rattle.gob_stream.specs.Calls.Ends.{reader_of, writer_of}
use Rattle.gob_go.specs.Calls.Reader.{session_of}
use Rattle.gob_go.specs.Calls.Session.{limits_of}
use Rattle.gob_tool.specs.declared.fault.ToolFault.TheVariants as fault
use Rattle.gob_tool.proofs.EndLaws.{at_error}
use Rattle.gob_views.specs.Machine.Gathered.{GathersAll, gathered_text}
use Rattle.gob_views.specs.Types.{TypesAnswers}
use Rattle.gob_views.proofs.TypeRuns.{none_sent, refused_at, refused_sent, refused_unsent, whole_sent}
use Rattle.gob_views.proofs.types.write_types.Goals as goal

pub returns-in_err-reader-clause-written : goal.returns-in_err-reader-clause-written
returns-in_err-reader-clause-written g c = λ bytes known.
    let out = g.W.Write.contents (writer_of c.args.output.now) in
    let now = g.R.Read.remaining (reader_of c.args.input.now) in
    at_error (λ r. TypesAnswers c.args.form (within_trees c.args.limits) bytes now out out r) c.from_residual.result
    fault.Memory c.from_residual.ensures.1 (Appends-nil out)

pub returns-in-Ok-clause-written : goal.returns-in-Ok-clause-written
returns-in-Ok-clause-written g c = λ bytes known.
    let old = g.W.Write.contents (writer_of c.args.output.now) in
    let new = g.W.Write.contents (writer_of c.send_source.new.output) in
    let now = g.R.Read.remaining (reader_of c.gather_types.new.input) in
    let r = c.gather_types.new.reader in
    let has = c.gather_types.new.gathered in
    whole_sent c.args.form (within_trees c.args.limits) r bytes now old new has
    (gathered_text c.args.form (types c.table.result.now) has) c.send_source.result
    (subst (λ (M : Bounds). GathersAll (within_trees M) r bytes now has (Ok tt)) c.in_ok-reader.ensures.limits
    (c.in-Ok.ensures.gathered bytes known))
    (ap (λ d. gathered_text c.args.form (types d) has) c.table.ensures) c.send_source.ensures.sent

pub returns-in_err-send_source-in-Err-Refused-clause-written :
    goal.returns-in_err-send_source-in-Err-Refused-clause-written
returns-in_err-send_source-in-Err-Refused-clause-written g c = λ bytes known.
    let old = g.W.Write.contents (writer_of c.args.output.now) in
    let new = g.W.Write.contents (writer_of c.send_source-in-Err-Refused.new.output) in
    let now = g.R.Read.remaining (reader_of c.gather_types.new.input) in
    let r = c.gather_types.new.reader in
    let has = c.gather_types.new.gathered in
    let f = c.in_err-send_source-in-Err-Refused.field-0.0 in
    at_error (λ res. TypesAnswers c.args.form (within_trees c.args.limits) bytes now old new res)
    c.from_residual-in_err-send_source-in-Err-Refused.result f
    c.from_residual-in_err-send_source-in-Err-Refused.ensures.1
    (refused_unsent c.args.form (within_trees c.args.limits) r bytes now old new has
    (gathered_text c.args.form (types c.table-in-Err-Refused.result.now) has) c.in-Err-Refused.refusal f
    (refused_at (limits_of (session_of c.in_ok-reader.reader)) c.args.limits r bytes now has c.in-Err-Refused.field-0
    c.in-Err-Refused.refusal c.in_ok-reader.ensures.limits c.in-Err-Refused.field-0-is
    (c.in-Err-Refused.ensures.gathered bytes known))
    (ap (λ d. gathered_text c.args.form (types d) has) c.table-in-Err-Refused.ensures)
    c.in_err-send_source-in-Err-Refused.ensures.sent)

pub returns-in-Err-Refused-clause-written : goal.returns-in-Err-Refused-clause-written
returns-in-Err-Refused-clause-written g c = λ bytes known.
    let old = g.W.Write.contents (writer_of c.args.output.now) in
    let new = g.W.Write.contents (writer_of c.send_source-in-Err-Refused.new.output) in
    let now = g.R.Read.remaining (reader_of c.gather_types.new.input) in
    let r = c.gather_types.new.reader in
    let has = c.gather_types.new.gathered in
    refused_sent c.args.form (within_trees c.args.limits) r bytes now old new has
    (gathered_text c.args.form (types c.table-in-Err-Refused.result.now) has) c.in-Err-Refused.refusal
    (refused_at (limits_of (session_of c.in_ok-reader.reader)) c.args.limits r bytes now has c.in-Err-Refused.field-0
    c.in-Err-Refused.refusal c.in_ok-reader.ensures.limits c.in-Err-Refused.field-0-is
    (c.in-Err-Refused.ensures.gathered bytes known))
    (ap (λ d. gathered_text c.args.form (types d) has) c.table-in-Err-Refused.ensures)
    c.in_ok-send_source-in-Err-Refused.ensures.sent

pub returns-clause-written : goal.returns-clause-written
returns-clause-written g c = λ bytes known.
    let out = g.W.Write.contents (writer_of c.args.output.now) in
    let now = g.R.Read.remaining (reader_of c.gather_types.new.input) in
    subst (λ f. TypesAnswers c.args.form (within_trees c.args.limits) bytes now out out (Err f)) (sym c.from.ensures)
    (none_sent c.args.form (within_trees c.args.limits) bytes now out c.in-Err.fault (λ R e. search rules))
