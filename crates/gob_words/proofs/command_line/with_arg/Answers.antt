-- The argument stands behind the others.
use Rattle.std.proofs.Common.{◌∙◌, ap₂}
use Rattle.std.proofs.lemmas.Result.{IfOk-weaker}
use Rattle.clap.specs.Words.{with_rule}
use Rattle.gob_words.proofs.command_line.with_arg.Goals as goal

pub returns-clause-app : goal.returns-clause-app
returns-clause-app c app rule is same =
    let made = rw (c.in_ok-command.was) at is in
    IfOk-weaker c.arg.result _ _ (λ r added. added.shape c.requires.local ∙ ap₂ with_rule made same) c.arg.ensures
