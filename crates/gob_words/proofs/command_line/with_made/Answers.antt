-- The options and the flag stand behind the others.
use Rattle.gob_words.proofs.command_line.with_made.Goals as goal

pub returns-clause-app : goal.returns-clause-app
returns-clause-app c app is = c.with_flag.ensures.app _ (c.with_arg-named.ensures.app _ _
    (c.with_arg-typed.ensures.app _ _ is c.option.ensures.rule) c.option-2.ensures.rule)
