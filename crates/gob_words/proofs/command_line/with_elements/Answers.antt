-- The option stands behind the flag, and the flag for progress behind it.
use Rattle.gob_words.proofs.command_line.with_elements.Goals as goal

pub returns-clause-app : goal.returns-clause-app
returns-clause-app c app is = c.with_progress.ensures.app _ (c.with_arg.ensures.app _ _
    (c.with_flag-flagged.ensures.app app is) c.kinds.ensures.rule)
