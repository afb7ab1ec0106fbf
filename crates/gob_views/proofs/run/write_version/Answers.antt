-- A write that fails leaves a prefix of the line.
use Rattle.std.proofs.Common.{ℕ, List, [], ◌∷◌, codes, subst}
use Rattle.gob_stream.specs.Calls.Ends.{writer_of}
use Rattle.gob_stream.specs.Calls.Writing.{SentPrefix}
use Rattle.std.specs.Io.KnownBytes.{Appends}
use Rattle.gob_tool.specs.Fault.{writing_fault}
use Rattle.gob_tool.proofs.EndLaws.{at_error}
use Rattle.gob_views.specs.Running.{version_line}
use Rattle.gob_views.specs.Sending.{SendsText}
use Rattle.gob_views.proofs.SendLaws.{prefix_behind, prefix_on}
use Rattle.gob_views.proofs.run.write_version.Goals as goal

pub returns-in_err-send_all-clause-sent : goal.returns-in_err-send_all-clause-sent
returns-in_err-send_all-clause-sent g c =
    let old = g.W.Write.contents (writer_of c.args.output.now) in
    let new = g.W.Write.contents (writer_of c.send_all.new.self) in
    at_error (λ r. SendsText old new version_line r) c.from_residual.result (writing_fault c.in_err-send_all.field-0.0)
    c.from_residual.ensures.1 (rw c.in_err-send_all.ensures.fault (prefix_on old new (codes "gob 0.1.0") (10 ∷ [])
    (subst (λ (l : List ℕ). SentPrefix l old new) c.as_bytes.ensures.value c.in_err-send_all.ensures.prefix)))

pub returns-in_err-send_all-2-clause-sent : goal.returns-in_err-send_all-2-clause-sent
returns-in_err-send_all-2-clause-sent g c =
    let old = g.W.Write.contents (writer_of c.args.output.now) in
    let mid = g.W.Write.contents (writer_of c.send_all.new.self) in
    let new = g.W.Write.contents (writer_of c.send_all-2.new.self) in
    at_error (λ r. SendsText old new version_line r) c.from_residual-in_err-send_all-2.result
    (writing_fault c.in_err-send_all-2.field-0.0) c.from_residual-in_err-send_all-2.ensures.1
    (rw c.in_err-send_all-2.ensures.fault (prefix_behind old mid new (codes "gob 0.1.0") (10 ∷ [])
    (subst (λ (l : List ℕ). Appends old mid l) c.as_bytes.ensures.value c.in_ok-send_all.ensures.ok)
    c.in_err-send_all-2.ensures.prefix))
