-- The option and the flag stand behind what each command on two streams has.
use Rattle.gob_words.proofs.command_line.convert.Goals as goal

pub returns-clause-app : goal.returns-clause-app
returns-clause-app c =
    let renaming = c.with_arg-renaming.ensures.app _ _ c.two_streams-wanting.ensures.app c.renames.ensures.rule in
    c.with_flag.ensures.app _ renaming
