-- The stream and the directory stand behind the options.
use Rattle.gob_words.proofs.command_line.split.Goals as goal

pub returns-clause-app : goal.returns-clause-app
returns-clause-app c = c.with_arg.ensures.app _ _ (c.with_arg-reading.ensures.app _ _
    (c.with_sizes-sized.ensures.app _ c.with_options-options.ensures.app) c.needed.ensures.rule) c.needed-2.ensures.rule
