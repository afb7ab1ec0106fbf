-- The flag and the option stand behind the others, and the input behind them.
use Rattle.gob_words.proofs.command_line.write.Goals as goal

pub returns-clause-app : goal.returns-clause-app
returns-clause-app c = c.with_input.ensures.app _ (c.with_line.ensures.app _
    (c.with_flag-flagged.ensures.app _ c.with_options-options.ensures.app))
