use Rattle.std.proofs.Common.{◌∙◌, ◌++◌, List, ap, ℕ}
use Rattle.std.proofs.lemmas.Result.{on_ok_weaker}
use Rattle.gob_tool.proofs.Profile.FormLaws.{tidy_given}
use Rattle.gob_tool.proofs.go.forms.tidy_and_write.Goals as goal

pub write_item-requires : goal.write_item-requires
write_item-requires c = tidy_given c.requires.of_stream c.in_ok-tidy_item.ensures

pub returns : goal.returns
returns c = on_ok_weaker c.write_item.result (λ written. record {
  becomes = c.in_ok-tidy_item.ensures;
  written = λ bytes is. written bytes is ∙ ap (λ (l : List ℕ). l ++ bytes) c.requires.empty;
}) c.write_item.ensures.ok
