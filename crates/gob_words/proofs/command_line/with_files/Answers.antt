-- The rule of the files is known.
use Rattle.gob_words.proofs.command_line.with_files.Goals as goal

pub returns-clause-app : goal.returns-clause-app
returns-clause-app c app is = c.with_arg.ensures.app app _ is c.files.ensures.rule
