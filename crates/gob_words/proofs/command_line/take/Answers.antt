-- The flag stands behind what each command on two streams has.
use Rattle.gob_words.proofs.command_line.take.Goals as goal

pub returns-clause-app : goal.returns-clause-app
returns-clause-app c = c.with_flag.ensures.app _ c.two_streams-wanting.ensures.app
