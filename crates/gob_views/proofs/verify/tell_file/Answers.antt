-- The line has what the check wrote, or why it wrote nothing.
use Rattle.std.proofs.Common.{◌≡◌, ◌∙◌, ℕ, List, [], Some, ap, subst}
use Rattle.gob_tool.specs.CheckingGo.{CheckGoAnswers}
use Rattle.gob_stream.specs.Bounds.{within_trees}
use Rattle.gob_stream.specs.Calls.Ends.{reader_of, writer_of}
use Rattle.gob_views.specs.Verify.{IsSaid, told_of}
use Rattle.gob_views.proofs.VerifyLaws.{right_of}
use Rattle.gob_views.proofs.verify.tell_file.Goals as goal

pub returns : goal.returns
returns g c = λ bytes known.
    let L = within_trees c.args.limits in
    let now = g.R.Read.remaining (reader_of c.run_check_go-answer.new.input) in
    let answer = c.run_check_go-answer.result in
    let counts = (writer_of c.run_check_go-answer.new.output).items in
    let said = c.in_ok-said.said.items in
    let checked = c.run_check_go-answer.ensures.checked bytes known in
    let empty : (writer_of c.new-counts.result).items ≡ [] = ap (λ w. w.items) c.new-counts.ensures.writer
    ∙ c.new.ensures.items in
    let says = subst (λ w. IsSaid answer w.items said) c.into_inner.ensures c.in_ok-said.ensures in
    record {
      counts = counts;
      right = right_of L bytes now counts said answer
          (subst (λ (l : List ℕ). CheckGoAnswers L bytes now (Some l) (Some counts) answer) empty checked) says;
      said = said;
      says = says;
      is = subst (λ (s : List ℕ). c.in_ok-line.line.items ≡ told_of c.args.name.now s) c.deref.ensures.value
          c.in_ok-line.ensures;
    }
