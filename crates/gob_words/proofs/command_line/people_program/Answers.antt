-- The commands for people stand one behind another.
use Rattle.gob_words.proofs.command_line.people_program.Goals as goal

pub returns : goal.returns
returns c =
    let valuing = c.with_command-valuing.ensures _ _ c.bare_program.ensures c.values.ensures.app in
    let typing = c.with_command-typing.ensures _ _ valuing c.types.ensures.app in
    let telling = c.with_command-telling.ensures _ _ typing c.one_stream-why.ensures.app in
    let explaining = c.with_command-explaining.ensures _ _ telling c.explain.ensures.app in
    let verifying = c.with_command-verifying.ensures _ _ explaining c.verify.ensures.app in
    let salvaging = c.with_command-salvaging.ensures _ _ verifying c.salvage.ensures.app in
    let splitting = c.with_command-splitting.ensures _ _ salvaging c.split.ensures.app in
    c.with_command.ensures _ _ splitting c.join.ensures.app
