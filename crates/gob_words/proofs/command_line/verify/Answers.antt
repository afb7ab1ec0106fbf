-- The files stand behind the options.
use Rattle.gob_words.proofs.command_line.verify.Goals as goal

pub returns-clause-app : goal.returns-clause-app
returns-clause-app c = c.with_files.ensures.app _ (c.with_progress.ensures.app _ c.with_options-options.ensures.app)
