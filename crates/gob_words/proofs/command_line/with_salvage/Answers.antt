-- It is a flag.
use Rattle.gob_words.proofs.command_line.with_salvage.Goals as goal

pub returns-clause-app : goal.returns-clause-app
returns-clause-app c app is = c.with_flag.ensures.app app is
