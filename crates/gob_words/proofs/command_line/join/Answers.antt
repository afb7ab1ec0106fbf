-- The files stand behind the options.
use Rattle.gob_words.proofs.command_line.join.Goals as goal

pub returns-clause-app : goal.returns-clause-app
returns-clause-app c = c.with_files.ensures.app _ c.with_options.ensures.app
