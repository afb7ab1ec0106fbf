-- What the run wrote to an output that was empty.
use Rattle.std.proofs.Common.{◌≡◌, ◌∙◌, [], Some, ap}
use Rattle.std.proofs.lemmas.Result.{IfOk-weaker}
use Rattle.gob_stream.specs.Bounds.{within_trees}
use Rattle.gob_stream.specs.Calls.Ends.{writer_of}
use Rattle.gob_tool.specs.ShowingGo.{ShowGoAnswers}
use Rattle.gob_views.proofs.InMemoryLaws.{said_from}
use Rattle.gob_c.proofs.in_memory.shown_of.Goals as goal

pub returns : goal.returns
returns c =
    let empty : (writer_of c.new-output.result).items ≡ [] = ap (λ w. w.items) c.new-output.ensures.writer
    ∙ c.new.ensures.items in
    let L = within_trees c.args.limits in
    let run = c.run_show_go-answer in
    let written = run.ensures.shown c.args.bytes.now (ap (λ r. Some r.now) c.new-input.ensures.reader) in
    IfOk-weaker c.of.result _ _ (λ said answers. record { now = _; answers = answers })
    (said_from (λ now old new answer. ShowGoAnswers L c.args.bytes.now now (Some old) (Some new) answer) _
    c.into_inner.result.items (writer_of c.new-output.result).items (writer_of run.new.output).items run.result
    c.of.result c.of.ensures.refusal (IfOk-weaker c.of.result _ _ (λ said is. ap (λ t. t.items) is) c.of.ensures.text)
    empty (ap (λ w. w.items) c.into_inner.ensures) written)
