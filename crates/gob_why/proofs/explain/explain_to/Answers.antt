-- What was read is explained, of a whole stream and of one that is refused.
use Rattle.std.proofs.Common.{[], Err, Ok, refl, subst}
use Rattle.gob_types.specs.Base.{base_table}
use Rattle.gob_types.specs.Defined.{types}
use Rattle.gob_stream.specs.Bounds.{within_trees}
use Rattle.gob_stream.specs.Calls.Ends.{reader_of, writer_of}
use Rattle.gob_go.specs.Calls.Session.{limits_of, types_of}
use Rattle.gob_tool.specs.declared.fault.ToolFault.TheVariants as fault
use Rattle.gob_tool.proofs.EndLaws.{at_error}
use Rattle.gob_why.specs.Explain.{ExplainAnswers}
use Rattle.gob_why.specs.Machine.Keeping.{TellsRefused}
use Rattle.gob_why.proofs.ExplainLaws.{none_explained, other_told, refused_told, refused_untold, whole_told}
use Rattle.gob_why.proofs.KeepingLaws.{kept_first}
use Rattle.gob_why.proofs.explain.explain_to.Goals as goal

pub explain_items-requires-clause-first : goal.explain_items-requires-clause-first
explain_items-requires-clause-first g c =
    kept_first _ _ _ _ _ _ c.in_ok-session.ensures.has_read c.new-kept.ensures.items c.new-kept.ensures.item
    c.new-kept.ensures.begin refl

pub explain_refused-requires : goal.explain_refused-requires
explain_refused-requires g c = record { sound = c.in-Err.ensures.sound }

pub returns-in_err-session-clause-explained : goal.returns-in_err-session-clause-explained
returns-in_err-session-clause-explained g c = λ bytes known.
    let out = g.W.Write.contents (writer_of c.args.lines.now.out.output.now) in
    let now = g.R.Read.remaining (reader_of c.args.input.now) in
    let L = within_trees c.args.limits in
    at_error (λ r. ExplainAnswers c.args.which L bytes now out out r) c.from_residual.result fault.Memory
    c.from_residual.ensures.1 (none_explained c.args.which L bytes out)

pub returns-in_default-clause-explained : goal.returns-in_default-clause-explained
returns-in_default-clause-explained g c = λ bytes known.
    let old = g.W.Write.contents (writer_of c.args.lines.now.out.output.now) in
    let new = g.W.Write.contents (writer_of c.explain_items.new.lines.out.output.now) in
    let now = g.R.Read.remaining (reader_of c.explain_items.new.input) in
    whole_told c.args.which (limits_of c.in_ok-session.session) c.args.limits base_table bytes [] 0 now old new tt
    c.in_ok-session.ensures.limits
    (c.in_default.ensures.explained c.args.which c.new-kept.ensures.explained bytes known)

pub returns-in_default-fault-clause-explained : goal.returns-in_default-fault-clause-explained
returns-in_default-fault-clause-explained g c = λ bytes known.
    let old = g.W.Write.contents (writer_of c.args.lines.now.out.output.now) in
    let new = g.W.Write.contents (writer_of c.explain_items.new.lines.out.output.now) in
    let now = g.R.Read.remaining (reader_of c.explain_items.new.input) in
    let kept = c.explain_items.new.kept in
    other_told c.args.which (limits_of c.in_ok-session.session) c.args.limits (types_of c.explain_items.new.session)
    bytes kept.item.items kept.begin now old new c.in-Err.fault c.in_default-fault.not-Refused
    c.in_ok-session.ensures.limits
    (c.in-Err.ensures.explained c.args.which c.new-kept.ensures.explained bytes known)

pub returns-in_err-explain_refused-clause-explained : goal.returns-in_err-explain_refused-clause-explained
returns-in_err-explain_refused-clause-explained g c = λ bytes known.
    let old = g.W.Write.contents (writer_of c.args.lines.now.out.output.now) in
    let mid = g.W.Write.contents (writer_of c.explain_items.new.lines.out.output.now) in
    let new = g.W.Write.contents (writer_of c.explain_refused.new.lines.out.output.now) in
    let now = g.R.Read.remaining (reader_of c.explain_items.new.input) in
    let kept = c.explain_items.new.kept in
    let e = c.in_err-explain_refused.field-0.0 in
    let sent = subst (λ T. TellsRefused c.args.which (types T) kept.begin c.in-Refused.refusal kept.item.items mid new
    (Err e)) c.table.ensures c.in_err-explain_refused.ensures.sent in
    at_error (λ r. ExplainAnswers c.args.which (within_trees c.args.limits) bytes now old new r)
    c.from_residual-in_err-explain_refused.result e c.from_residual-in_err-explain_refused.ensures.1
    (refused_untold c.args.which (limits_of c.in_ok-session.session) c.args.limits
    (types_of c.explain_items.new.session) bytes kept.item.items kept.begin now old mid new c.in-Refused.refusal
    c.in-Err.fault e c.in-Refused.is c.in_ok-session.ensures.limits
    (c.in-Err.ensures.explained c.args.which c.new-kept.ensures.explained bytes known) sent)

pub returns-clause-explained : goal.returns-clause-explained
returns-clause-explained g c = λ bytes known.
    let old = g.W.Write.contents (writer_of c.args.lines.now.out.output.now) in
    let mid = g.W.Write.contents (writer_of c.explain_items.new.lines.out.output.now) in
    let new = g.W.Write.contents (writer_of c.explain_refused.new.lines.out.output.now) in
    let now = g.R.Read.remaining (reader_of c.explain_items.new.input) in
    let kept = c.explain_items.new.kept in
    let sent = subst (λ T. TellsRefused c.args.which (types T) kept.begin c.in-Refused.refusal kept.item.items mid new
    (Ok tt)) c.table.ensures c.in_ok-explain_refused.ensures.sent in
    refused_told c.args.which (limits_of c.in_ok-session.session) c.args.limits
    (types_of c.explain_items.new.session) bytes kept.item.items kept.begin now old mid new c.in-Refused.refusal
    c.in-Err.fault tt c.in-Refused.is c.in_ok-session.ensures.limits
    (c.in-Err.ensures.explained c.args.which c.new-kept.ensures.explained bytes known) sent
