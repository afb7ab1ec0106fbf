-- The flags stand behind the options, and the input behind them.
use Rattle.gob_words.proofs.command_line.show.Goals as goal

pub returns-clause-app : goal.returns-clause-app
returns-clause-app c = c.with_input.ensures.app _ (c.with_flag-quoting.ensures.app _
    (c.with_salvage-kept.ensures.app _ c.with_go-flagged.ensures.app))
