-- The input stands behind the flags.
use Rattle.gob_words.proofs.command_line.check.Goals as goal

pub returns-clause-app : goal.returns-clause-app
returns-clause-app c = c.with_input.ensures.app _ c.with_go-flagged.ensures.app
