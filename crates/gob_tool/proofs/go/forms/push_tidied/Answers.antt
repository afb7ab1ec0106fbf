use Rattle.std.proofs.lemmas.Result.{on_ok_weaker}
use Rattle.gob_tool.proofs.Profile.FormLaws.{tidied_text}
use Rattle.gob_tool.proofs.go.forms.push_tidied.Goals as goal

pub returns : goal.returns
returns c = on_ok_weaker c.tidy_and_write-made.result (λ x i m. tidied_text i x m) c.tidy_and_write-made.ensures
