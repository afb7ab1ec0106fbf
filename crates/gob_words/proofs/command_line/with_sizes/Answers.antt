-- An option stands behind the other.
use Rattle.gob_words.proofs.command_line.with_sizes.Goals as goal

pub returns-clause-app : goal.returns-clause-app
returns-clause-app c app is = c.with_arg.ensures.app _ _
    (c.with_arg-sized.ensures.app _ _ is c.option.ensures.rule) c.option-2.ensures.rule
