-- The text went out, or a prefix of it.
use Rattle.std.proofs.Common.{◌≡◌, ◌++◌, [], Err, List, ℕ, string_bytes, subst, sym}
use Rattle.std.specs.Io.KnownBytes.{Appends}
use Rattle.std.proofs.KnownBytes.{Appends-nil, Appends-trans}
use Rattle.gob_types.specs.Defined.{types}
use Rattle.gob_stream.specs.Calls.Ends.{failed_writes, writer_of}
use Rattle.gob_stream.specs.Calls.Writing.{SentPrefix}
use Rattle.gob_tool.specs.Fault.{writing_fault}
use Rattle.gob_tool.specs.declared.fault.ToolFault.TheVariants as fault
use Rattle.gob_tool.proofs.EndLaws.{at_error, sent_prefix}
use Rattle.gob_why.specs.Explain.{not_chosen}
use Rattle.gob_why.specs.Machine.Keeping.{TellsRefused}
use Rattle.gob_why.proofs.SendingLaws.{all_out, all_sent, cut_sent, prefix_behind, prefix_longer}
use Rattle.gob_why.proofs.SendingLaws.{refused_cut, refused_lines, sent_to}
use Rattle.gob_why.proofs.explain.explain_refused.Goals as goal

pub returns-then-not-has_refused-clause-sent : goal.returns-then-not-has_refused-clause-sent
returns-then-not-has_refused-clause-sent g c = (
  [],
  not_chosen (rw c.if-not-has_refused.true at c.has_refused.ensures),
  Appends-nil (g.W.Write.contents (writer_of c.args.lines.now.out.output.now)),
)

pub returns-in_err-sent-clause-sent : goal.returns-in_err-sent-clause-sent
returns-in_err-sent-clause-sent g c =
    let scene = c.args.scene.now in
    let T = types scene.table.now in
    let item = scene.kept.now.item.items in
    let begin = scene.kept.now.begin in
    let s = c.args.lines.now in
    let t = c.push_first_bytes-reached.new.lines in
    let p = c.push_first_bytes-reached.ensures in
    let old = g.W.Write.contents (writer_of s.out.output.now) in
    let mid = g.W.Write.contents (writer_of t.out.output.now) in
    let m = failed_writes s.out.output.now in
    let n = failed_writes t.out.output.now in
    let to = sent_to s.out t.out (λ x. g.W.Write.contents (writer_of x.output.now))
    (λ x. failed_writes x.output.now) (λ x y. y.output.ghost_name ≡ x.output.ghost_name) p.text s.fault
    t.fault c.requires.sound p.put in
    let shown = λ (words : List ℕ). refused_lines c.args.which T begin scene.refusal item _ p.text words _
    (rw c.if-not-has_refused.false at c.has_refused.ensures) c.explained-front.ensures p.holds in
    let e = c.in_err-sent.field-0.0 in
    let cut = cut_sent (λ r. TellsRefused c.args.which T begin scene.refusal item old mid r) old mid m n
    p.text t.fault e c.in_err-sent.ensures.answer to
    (λ q. refused_cut c.args.which T begin scene.refusal item (p.text ++ []) old mid (shown [])
    (prefix_longer old mid p.text [] q)) in
    at_error (λ r. TellsRefused c.args.which T begin scene.refusal item old
    (g.W.Write.contents (writer_of c.sent.new.lines.out.output.now)) r)
    c.from_residual.result e c.from_residual.ensures.1
    (subst (λ out. TellsRefused c.args.which T begin scene.refusal item old
    (g.W.Write.contents (writer_of out.output.now)) (Err e)) (sym c.in_err-sent.ensures.out) cut)

pub returns-in_err-words-clause-sent : goal.returns-in_err-words-clause-sent
returns-in_err-words-clause-sent g c =
    let scene = c.args.scene.now in
    let T = types scene.table.now in
    let item = scene.kept.now.item.items in
    let begin = scene.kept.now.begin in
    let s = c.args.lines.now in
    let t = c.push_first_bytes-reached.new.lines in
    let p = c.push_first_bytes-reached.ensures in
    let old = g.W.Write.contents (writer_of s.out.output.now) in
    let mid = g.W.Write.contents (writer_of t.out.output.now) in
    let m = failed_writes s.out.output.now in
    let n = failed_writes t.out.output.now in
    let to = sent_to s.out t.out (λ x. g.W.Write.contents (writer_of x.output.now))
    (λ x. failed_writes x.output.now) (λ x y. y.output.ghost_name ≡ x.output.ghost_name) p.text s.fault
    t.fault c.requires.sound p.put in
    let shown = λ (words : List ℕ). refused_lines c.args.which T begin scene.refusal item _ p.text words _
    (rw c.if-not-has_refused.false at c.has_refused.ensures) c.explained-front.ensures p.holds in
    let out = all_sent old mid m n p.text t.fault _ c.in_ok-sent.ensures.answer to in
    let cut = refused_cut c.args.which T begin scene.refusal item (p.text ++ []) old mid (shown [])
    (prefix_longer old mid p.text [] (all_out old mid p.text out)) in
    at_error (λ r. TellsRefused c.args.which T begin scene.refusal item old
    (g.W.Write.contents (writer_of c.sent.new.lines.out.output.now)) r)
    c.from_residual-in_err-words.result fault.Memory c.from_residual-in_err-words.ensures.1
    (subst (λ out. TellsRefused c.args.which T begin scene.refusal item old
    (g.W.Write.contents (writer_of out.output.now)) (Err fault.Memory)) (sym c.in_ok-sent.ensures.out) cut.0)

pub returns-in_err-send_all-clause-sent : goal.returns-in_err-send_all-clause-sent
returns-in_err-send_all-clause-sent g c =
    let scene = c.args.scene.now in
    let T = types scene.table.now in
    let item = scene.kept.now.item.items in
    let begin = scene.kept.now.begin in
    let s = c.args.lines.now in
    let t = c.push_first_bytes-reached.new.lines in
    let p = c.push_first_bytes-reached.ensures in
    let old = g.W.Write.contents (writer_of s.out.output.now) in
    let mid = g.W.Write.contents (writer_of t.out.output.now) in
    let m = failed_writes s.out.output.now in
    let n = failed_writes t.out.output.now in
    let to = sent_to s.out t.out (λ x. g.W.Write.contents (writer_of x.output.now))
    (λ x. failed_writes x.output.now) (λ x y. y.output.ghost_name ≡ x.output.ghost_name) p.text s.fault
    t.fault c.requires.sound p.put in
    let shown = λ (words : List ℕ). refused_lines c.args.which T begin scene.refusal item _ p.text words _
    (rw c.if-not-has_refused.false at c.has_refused.ensures) c.explained-front.ensures p.holds in
    let out = all_sent old mid m n p.text t.fault _ c.in_ok-sent.ensures.answer to in
    let late = g.W.Write.contents (writer_of c.sent.new.lines.out.output.now) in
    let new = g.W.Write.contents (writer_of c.send_all.new.self) in
    let words = string_bytes c.in_ok-words.words in
    let first : Appends old late p.text =
    subst (λ out. Appends old (g.W.Write.contents (writer_of out.output.now)) p.text) (sym c.in_ok-sent.ensures.out)
    out in
    let prefix = subst (λ (l : List ℕ). SentPrefix l late new) c.as_bytes.ensures.value
    c.in_err-send_all.ensures.prefix in
    let cut = refused_cut c.args.which T begin scene.refusal item (p.text ++ words) old new (shown words)
    (prefix_behind old late new p.text words first (sent_prefix late new words prefix)) in
    at_error (λ r. TellsRefused c.args.which T begin scene.refusal item old new r)
    c.from_residual-in_err-send_all.result (writing_fault c.in_err-send_all.field-0.0)
    c.from_residual-in_err-send_all.ensures.1 (rw c.in_err-send_all.ensures.fault cut.1)

pub returns-clause-sent : goal.returns-clause-sent
returns-clause-sent g c =
    let scene = c.args.scene.now in
    let T = types scene.table.now in
    let item = scene.kept.now.item.items in
    let begin = scene.kept.now.begin in
    let s = c.args.lines.now in
    let t = c.push_first_bytes-reached.new.lines in
    let p = c.push_first_bytes-reached.ensures in
    let old = g.W.Write.contents (writer_of s.out.output.now) in
    let mid = g.W.Write.contents (writer_of t.out.output.now) in
    let m = failed_writes s.out.output.now in
    let n = failed_writes t.out.output.now in
    let to = sent_to s.out t.out (λ x. g.W.Write.contents (writer_of x.output.now))
    (λ x. failed_writes x.output.now) (λ x y. y.output.ghost_name ≡ x.output.ghost_name) p.text s.fault
    t.fault c.requires.sound p.put in
    let shown = λ (words : List ℕ). refused_lines c.args.which T begin scene.refusal item _ p.text words _
    (rw c.if-not-has_refused.false at c.has_refused.ensures) c.explained-front.ensures p.holds in
    let out = all_sent old mid m n p.text t.fault _ c.in_ok-sent.ensures.answer to in
    let late = g.W.Write.contents (writer_of c.sent.new.lines.out.output.now) in
    let new = g.W.Write.contents (writer_of c.send_all.new.self) in
    let words = string_bytes c.in_ok-words.words in
    let first : Appends old late p.text =
    subst (λ out. Appends old (g.W.Write.contents (writer_of out.output.now)) p.text) (sym c.in_ok-sent.ensures.out)
    out in (
      p.text ++ words,
      shown words,
      Appends-trans old late new p.text words first
          (subst (λ (l : List ℕ). Appends late new l) c.as_bytes.ensures.value c.in_ok-send_all.ensures.ok),
    )
