-- The flags stand behind the options, and the input behind them.
use Rattle.gob_words.proofs.command_line.types.Goals as goal

pub returns-clause-app : goal.returns-clause-app
returns-clause-app c = c.with_input.ensures.app _ (c.with_salvage.ensures.app _ (c.with_progress-telling.ensures.app _
    (c.with_flag-flagged.ensures.app _ c.with_options-options.ensures.app)))
