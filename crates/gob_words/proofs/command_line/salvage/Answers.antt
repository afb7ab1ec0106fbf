-- The option stands behind what each command on one stream has.
use Rattle.gob_words.proofs.command_line.salvage.Goals as goal

pub returns-clause-app : goal.returns-clause-app
returns-clause-app c = c.with_arg.ensures.app _ _ c.one_stream-reading.ensures.app c.option.ensures.rule
