-- The line is that of the JSON, or of the JSON under the name of the type.
use Rattle.std.proofs.Common.{ℕ, List, subst}
use Rattle.std.proofs.lemmas.Result.{on_ok_weaker}
use Rattle.gob_views.proofs.PlainLaws.{line_behind, ReadsInLine}
use Rattle.gob_views.proofs.value_line.push_json.Goals as goal

pub returns : goal.returns
returns c =
    let reads = subst (λ (text : List ℕ). ReadsInLine text) c.as_str.ensures.value c.push_line.ensures.reads in
    on_ok_weaker c.push_line.result
    (λ made j prints read.
    let typed = c.in_ok-typed_text.ensures j prints read in
    line_behind j typed.0 typed.1 reads made)
    (rw c.as_str.ensures.value at c.push_line.ensures.shown)
