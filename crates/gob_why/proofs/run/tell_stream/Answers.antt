-- What was read is said, of a whole stream and of one that is refused.
use Rattle.std.proofs.Common.{refl}
use Rattle.std.proofs.KnownBytes.{Appends-nil}
use Rattle.gob_stream.specs.Bounds.{within_trees}
use Rattle.gob_stream.specs.Calls.Ends.{reader_of, writer_of}
use Rattle.gob_go.specs.Calls.Session.{limits_of}
use Rattle.gob_tool.specs.Checking.{tally_line}
use Rattle.gob_tool.specs.declared.fault.ToolFault.TheVariants as fault
use Rattle.gob_tool.proofs.EndLaws.{at_error}
use Rattle.gob_why.specs.Why.{WhyAnswers}
use Rattle.gob_why.proofs.WhyLaws.{refusal_told, refusal_untold, whole_told}
use Rattle.gob_why.proofs.KeepingLaws.{kept_first}
use Rattle.gob_why.proofs.run.tell_stream.Goals as goal

pub count_all-requires-clause-first : goal.count_all-requires-clause-first
count_all-requires-clause-first g c =
    kept_first _ _ _ _ _ _ c.in_ok-session.ensures.has_read c.new-kept.ensures.items c.new-kept.ensures.item
    c.new-kept.ensures.begin refl

pub returns-in_err-session-clause-told : goal.returns-in_err-session-clause-told
returns-in_err-session-clause-told g c = λ bytes known.
    let out = g.W.Write.contents (writer_of c.args.output.now) in
    let now = g.R.Read.remaining (reader_of c.args.input.now) in
    at_error (λ r. WhyAnswers (within_trees c.args.limits) bytes now out out r) c.from_residual.result
    fault.Memory c.from_residual.ensures.1 (Appends-nil out)

pub returns-in-Ok-clause-told : goal.returns-in-Ok-clause-told
returns-in-Ok-clause-told g c = λ bytes known.
    let old = g.W.Write.contents (writer_of c.args.output.now) in
    let new = g.W.Write.contents (writer_of c.tell_whole.new.output) in
    let now = g.R.Read.remaining (reader_of c.count_all.new.input) in
    whole_told (limits_of c.in_ok-session.session) c.args.limits bytes (tally_line c.in-Ok.tally) now old new
    c.tell_whole.result c.in_ok-session.ensures.limits (c.in-Ok.ensures.counted bytes known) c.tell_whole.ensures.told

pub returns-in_err-tell_refusal-in-Err-Refused-clause-told :
    goal.returns-in_err-tell_refusal-in-Err-Refused-clause-told
returns-in_err-tell_refusal-in-Err-Refused-clause-told g c = λ bytes known.
    let old = g.W.Write.contents (writer_of c.args.output.now) in
    let new = g.W.Write.contents (writer_of c.tell_refusal.new.output) in
    let now = g.R.Read.remaining (reader_of c.count_all.new.input) in
    let e = c.in_err-tell_refusal-in-Err-Refused.field-0.0 in
    at_error (λ r. WhyAnswers (within_trees c.args.limits) bytes now old new r)
    c.from_residual-in_err-tell_refusal-in-Err-Refused.result e
    c.from_residual-in_err-tell_refusal-in-Err-Refused.ensures.1
    (refusal_untold (limits_of c.in_ok-session.session) c.args.limits bytes now old new c.in-Err-Refused.refusal
    c.in-Err-Refused.field-0 e c.in-Err-Refused.field-0-is c.in_ok-session.ensures.limits
    (c.in-Err-Refused.ensures.counted bytes known) c.in_err-tell_refusal-in-Err-Refused.ensures.told)

pub returns-in-Err-Refused-clause-told : goal.returns-in-Err-Refused-clause-told
returns-in-Err-Refused-clause-told g c = λ bytes known.
    let old = g.W.Write.contents (writer_of c.args.output.now) in
    let new = g.W.Write.contents (writer_of c.tell_refusal.new.output) in
    let now = g.R.Read.remaining (reader_of c.count_all.new.input) in
    refusal_told (limits_of c.in_ok-session.session) c.args.limits bytes now old new c.in-Err-Refused.refusal
    c.in-Err-Refused.field-0 c.in-Err-Refused.field-0-is c.in_ok-session.ensures.limits
    (c.in-Err-Refused.ensures.counted bytes known) c.in_ok-tell_refusal-in-Err-Refused.ensures.told
