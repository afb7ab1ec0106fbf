-- The command stands behind those of the program.
use Rattle.std.proofs.Common.{◌∙◌, ap, ap₂}
use Rattle.std.proofs.lemmas.Result.{IfOk-weaker}
use Rattle.clap.specs.Words.{App, with_subcommand}
use Rattle.gob_words.proofs.command_line.with_command.Goals as goal

pub returns : goal.returns
returns c before app was is =
    let program = rw (c.in_ok-program.was) at was in
    let made = rw (c.in_ok-command.was) at is in
    let local = rw (c.in_ok-command.was) at c.requires in
    IfOk-weaker c.subcommand.result _ _ (λ r added. added.shape local
    ∙ ap₂ with_subcommand program (ap (λ (x : App). x.top) made)) c.subcommand.ensures
