-- It is an option.
use Rattle.gob_words.proofs.command_line.with_line.Goals as goal

pub returns-clause-app : goal.returns-clause-app
returns-clause-app c app is = c.with_arg.ensures.app app _ is c.option.ensures.rule
