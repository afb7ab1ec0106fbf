-- The option stands behind the flag.
use Rattle.gob_words.proofs.command_line.with_parts.Goals as goal

pub returns-clause-app : goal.returns-clause-app
returns-clause-app c app is = c.with_arg.ensures.app _ _ (c.with_flag-flagged.ensures.app app is) c.option.ensures.rule
