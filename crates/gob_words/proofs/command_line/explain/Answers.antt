-- The flag and the option stand behind the others, and the input behind them.
use Rattle.gob_words.proofs.command_line.explain.Goals as goal

pub returns-clause-app : goal.returns-clause-app
returns-clause-app c = c.with_input.ensures.app _ (c.with_parts.ensures.app _ c.with_options-options.ensures.app)
