-- The text of the item, or a prefix of it, goes out, and the reader is behind the item.
use Rattle.std.proofs.Common.{subst, sym}
use Rattle.gob_types.specs.Defined.{types}
use Rattle.gob_stream.specs.Calls.Ends.{failed_writes, writer_of}
use Rattle.gob_stream.specs.Calls.Writing.{CountsWriterFaults}
use Rattle.gob_tool.specs.Sending.{Sends}
use Rattle.gob_tool.specs.Texts.{IsTextBy}
use Rattle.gob_tool.proofs.TextLaws.{large_at, large_counts, large_fault, whole_made}
use Rattle.gob_tool.proofs.texts.send_large.Goals as goal

pub pass-requires : goal.pass-requires
pass-requires g c =
    let w = rw c.in-Some.is at c.send_whole.ensures.sent in
    record { between = w.1.item.between; item = (_, w.1.item.next); within = w.1.item.within }

pub returns-in_err-sent-clause-sent : goal.returns-in_err-sent-clause-sent
returns-in_err-sent-clause-sent g c = λ read now given h.
    let d = g.S.Steps.stepping in
    let Is = IsTextBy d (g.M.TextSteps.of_item c.args.texts.now) (g.M.TextSteps.of_value c.args.texts.now) in
    let w = rw c.in-Some.is at c.send_whole.ensures.sent in
    let p = c.pass.ensures in
    let old = g.W.Write.contents (writer_of c.args.output.now) in
    let new = g.W.Write.contents (writer_of c.send_whole.new.output) in
    let s = subst (λ s. Sends old new w.0 s) c.in_err-sent.was w.2 in
    large_at d {Is = Is} c.args.reader.now c.pass.new.self read now given old new c.from_residual.result
    c.in_err-sent.field-0.0 c.from_residual.ensures.1
    (w.0, whole_made d p.stands w.1 p.limits p.table p.between p.passed h, s.1)

pub returns-in_err-sent-clause-fault : goal.returns-in_err-sent-clause-fault
returns-in_err-sent-clause-fault g c =
    let w = rw c.in-Some.is at c.send_whole.ensures.sent in
    let old = g.W.Write.contents (writer_of c.args.output.now) in
    let new = g.W.Write.contents (writer_of c.send_whole.new.output) in
    let s = subst (λ s. Sends old new w.0 s) c.in_err-sent.was w.2 in
    large_fault c.from_residual.result c.in_err-sent.field-0.0 c.from_residual.ensures.1 s.0

pub returns-in_err-sent-clause-counted : goal.returns-in_err-sent-clause-counted
returns-in_err-sent-clause-counted g c =
    let w = rw c.in-Some.is at c.send_whole.ensures.sent in
    let old = g.W.Write.contents (writer_of c.args.output.now) in
    let new = g.W.Write.contents (writer_of c.send_whole.new.output) in
    let s = subst (λ s. Sends old new w.0 s) c.in_err-sent.was w.2 in
    large_counts (failed_writes c.args.output.now) (failed_writes c.send_whole.new.output) c.from_residual.result
    c.in_err-sent.field-0.0 c.from_residual.ensures.1 (subst (λ s. CountsWriterFaults (failed_writes c.args.output.now)
    (failed_writes c.send_whole.new.output) s) c.in_err-sent.was w.3) s.0

pub returns-clause-sent : goal.returns-clause-sent
returns-clause-sent g c = λ read now given h.
    let d = g.S.Steps.stepping in
    let w = rw c.in-Some.is at c.send_whole.ensures.sent in
    let p = c.pass.ensures in
    let old = g.W.Write.contents (writer_of c.args.output.now) in
    let new = g.W.Write.contents (writer_of c.send_whole.new.output) in
    let s = subst (λ s. Sends old new w.0 s) c.in_ok-sent.was w.2 in
    (w.0, whole_made d p.stands w.1 p.limits p.table p.between p.passed h, s)

pub returns-in_err-sent-clause-fits : goal.returns-in_err-sent-clause-fits
returns-in_err-sent-clause-fits g c =
    subst (λ d. g.M.TextSteps.fits c.args.texts.now c.send_whole.new.kept (types d)) (sym c.pass.ensures.table)
    c.send_whole.ensures.fits

pub returns-clause-fits : goal.returns-clause-fits
returns-clause-fits g c =
    subst (λ d. g.M.TextSteps.fits c.args.texts.now c.send_whole.new.kept (types d)) (sym c.pass.ensures.table)
    c.send_whole.ensures.fits
