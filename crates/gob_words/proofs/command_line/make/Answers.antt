-- The options and the flag stand behind the others, and the input behind them.
use Rattle.gob_words.proofs.command_line.make.Goals as goal

pub returns-clause-app : goal.returns-clause-app
returns-clause-app c = c.with_input.ensures.app _ (c.with_made.ensures.app _
    (c.with_line-measured.ensures.app _ c.with_options-options.ensures.app))
