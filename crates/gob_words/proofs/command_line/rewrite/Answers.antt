-- The flags stand behind the options, and the input behind them.
use Rattle.gob_words.proofs.command_line.rewrite.Goals as goal

pub returns-clause-app : goal.returns-clause-app
returns-clause-app c = c.with_input.ensures.app _ (c.with_go_flags.ensures.app _ c.with_options-options.ensures.app)
