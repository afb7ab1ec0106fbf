-- The lines went out, or a prefix of them; and what stopped the reading is answered.
use Rattle.std.proofs.Common.{◌≡◌, Bool, Ok, Err, refl, subst, sym}
use Rattle.gob_stream.specs.Bounds.{within_trees}
use Rattle.gob_stream.specs.Calls.Ends.{failed_reads, failed_writes, reader_of, writer_of}
use Rattle.gob_go.specs.Calls.Session.{limits_of, types_of}
use Rattle.gob_tool.specs.Fault.{reading_fault}
use Rattle.gob_tool.specs.Showing.{CountsReadFaults}
use Rattle.gob_tool.proofs.EndLaws.{at_error, reads_unread, stop_faults}
use Rattle.gob_why.specs.Machine.Keeping.{ExplainsAll, ReadsBytes}
use Rattle.gob_why.proofs.ExplainLaws.{read_cut, read_stopped, read_whole}
use Rattle.gob_why.proofs.SendingLaws.{all_sent, counts_unread, cut_sent, none_failed, sending_unread, sent_to}
use Rattle.gob_why.proofs.SendingLaws.{unread_so}
use Rattle.gob_why.proofs.explain.explain_items.Goals as goal

pub returns-in_err-sent-clause-explained : goal.returns-in_err-sent-clause-explained
returns-in_err-sent-clause-explained g c = λ which is bytes known.
    let s = c.args.lines.now in
    let t = c.read_all-read.new in
    let p = c.read_all-read.ensures.read in
    let e = c.in_err-sent.field-0.0 in
    let old = g.W.Write.contents (writer_of s.out.output.now) in
    let new = g.W.Write.contents (writer_of t.lines.out.output.now) in
    let m = failed_writes s.out.output.now in
    let n = failed_writes t.lines.out.output.now in
    let L = within_trees (limits_of c.args.session.now) in
    let U = types_of t.session in
    let next = g.R.Read.remaining (reader_of t.input) in
    let item = t.kept.item.items in
    let begin = t.kept.begin in
    let to = sent_to s.out t.lines.out (λ x. g.W.Write.contents (writer_of x.output.now))
    (λ x. failed_writes x.output.now) (λ x y. y.output.ghost_name ≡ x.output.ghost_name) p.text s.fault
    t.lines.fault c.requires.sound p.put in
    let h = subst (λ o. ReadsBytes o L U t.kept.items bytes next item begin c.read_all-read.result p.text) is
    (p.holds bytes known) in
    let cut = cut_sent (λ r. ExplainsAll which L U bytes item begin next old new r) old new m n p.text t.lines.fault e
    c.in_err-sent.ensures.answer to
    (λ q. let x = read_cut which L U t.kept.items bytes next item begin p.text old new c.read_all-read.result h q in
    (x, x)) in
    at_error (λ r. ExplainsAll which L U bytes item begin next old
    (g.W.Write.contents (writer_of c.sent.new.lines.out.output.now)) r)
    c.from_residual.result e c.from_residual.ensures.1
    (subst (λ out. ExplainsAll which L U bytes item begin next old (g.W.Write.contents (writer_of out.output.now))
    (Err e)) (sym c.in_err-sent.ensures.out) cut)

pub returns-in_err-sent-clause-reads : goal.returns-in_err-sent-clause-reads
returns-in_err-sent-clause-reads g c =
    let e = c.in_err-sent.field-0.0 in
    let old = failed_reads c.args.input.now in
    let new = failed_reads c.read_all-read.new.input in
    let f = c.read_all-read.new.lines.fault in
    let other = unread_so c.read_all-read.result f e c.in_err-sent.ensures.answer c.read_all-read.ensures.unread in
    at_error (λ r. CountsReadFaults old new r) c.from_residual.result e c.from_residual.ensures.1
    (reads_unread old new (Err e) (counts_unread old new c.read_all-read.result other c.read_all-read.ensures.counted)
    (sending_unread f e c.in_err-sent.ensures.answer))

pub returns-in_err-read-clause-explained : goal.returns-in_err-read-clause-explained
returns-in_err-read-clause-explained g c = λ which is bytes known.
    let s = c.args.lines.now in
    let t = c.read_all-read.new in
    let p = rw c.in_err-read.was at c.read_all-read.ensures.read in
    let e = c.in_err-read.field-0.0 in
    let old = g.W.Write.contents (writer_of s.out.output.now) in
    let new = g.W.Write.contents (writer_of t.lines.out.output.now) in
    let m = failed_writes s.out.output.now in
    let n = failed_writes t.lines.out.output.now in
    let L = within_trees (limits_of c.args.session.now) in
    let U = types_of t.session in
    let next = g.R.Read.remaining (reader_of t.input) in
    let item = t.kept.item.items in
    let begin = t.kept.begin in
    let to = sent_to s.out t.lines.out (λ x. g.W.Write.contents (writer_of x.output.now))
    (λ x. failed_writes x.output.now) (λ x y. y.output.ghost_name ≡ x.output.ghost_name) p.text s.fault
    t.lines.fault c.requires.sound p.put in
    let out = all_sent old new m n p.text t.lines.fault _ c.in_ok-sent.ensures.answer to in
    let h = subst (λ o. ReadsBytes o L U t.kept.items bytes next item begin (Err e) p.text) is (p.holds bytes known) in
    at_error (λ r. ExplainsAll which L U bytes item begin next old
    (g.W.Write.contents (writer_of c.sent.new.lines.out.output.now)) r)
    c.from_residual-in_err-read.result (reading_fault e) c.from_residual-in_err-read.ensures.1
    (subst (λ out. ExplainsAll which L U bytes item begin next old (g.W.Write.contents (writer_of out.output.now))
    (Err (reading_fault e))) (sym c.in_ok-sent.ensures.out)
    (read_stopped which L U t.kept.items bytes next item begin p.text old new e h out))

pub returns-in_err-read-clause-reads : goal.returns-in_err-read-clause-reads
returns-in_err-read-clause-reads g c =
    let e = c.in_err-read.field-0.0 in
    let old = failed_reads c.args.input.now in
    let new = failed_reads c.read_all-read.new.input in
    at_error (λ r. CountsReadFaults old new r) c.from_residual-in_err-read.result (reading_fault e)
    c.from_residual-in_err-read.ensures.1
    (stop_faults Bool old old new e refl (rw c.in_err-read.was at c.read_all-read.ensures.counted))

pub returns-clause-explained : goal.returns-clause-explained
returns-clause-explained g c = λ which is bytes known.
    let s = c.args.lines.now in
    let t = c.read_all-read.new in
    let p = rw c.in_ok-read.was at c.read_all-read.ensures.read in
    let w = c.in_ok-read.field-0 in
    let old = g.W.Write.contents (writer_of s.out.output.now) in
    let new = g.W.Write.contents (writer_of t.lines.out.output.now) in
    let m = failed_writes s.out.output.now in
    let n = failed_writes t.lines.out.output.now in
    let L = within_trees (limits_of c.args.session.now) in
    let U = types_of t.session in
    let next = g.R.Read.remaining (reader_of t.input) in
    let item = t.kept.item.items in
    let begin = t.kept.begin in
    let to = sent_to s.out t.lines.out (λ x. g.W.Write.contents (writer_of x.output.now))
    (λ x. failed_writes x.output.now) (λ x y. y.output.ghost_name ≡ x.output.ghost_name) p.text s.fault
    t.lines.fault c.requires.sound p.put in
    let out = all_sent old new m n p.text t.lines.fault _ c.in_ok-sent.ensures.answer to in
    let whole = (rw c.in_ok-read.was at c.read_all-read.ensures.whole)
    (none_failed t.lines.fault _ c.in_ok-sent.ensures.answer) in
    let h = subst (λ o. ReadsBytes o L U t.kept.items bytes next item begin (Ok w) p.text) is (p.holds bytes known) in
    subst (λ out. ExplainsAll which L U bytes item begin next old (g.W.Write.contents (writer_of out.output.now))
    (Ok tt)) (sym c.in_ok-sent.ensures.out)
    (read_whole which L U t.kept.items bytes next item begin p.text old new w whole h out)
