-- A flag stands behind the other.
use Rattle.gob_words.proofs.command_line.with_go_flags.Goals as goal

pub returns-clause-app : goal.returns-clause-app
returns-clause-app c app is = c.with_flag.ensures.app _ (c.with_flag-flagged.ensures.app app is)
