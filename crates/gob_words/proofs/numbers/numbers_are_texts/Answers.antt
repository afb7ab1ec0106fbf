-- What is read of clap's matches is what the words say.
use Rattle.std.proofs.Common.{◌∙◌, ap, map, subst}
use Rattle.clap.specs.Words.{subcommand_of}
use Rattle.gob_words.specs.Numbers.{AsksForTexts}
use Rattle.gob_words.proofs.WordLaws.{simple}
use Rattle.gob_words.proofs.numbers.numbers_are_texts.Goals as goal

pub returns-in-Ok-clause-asked : goal.returns-in-Ok-clause-asked
returns-in-Ok-clause-asked c = λ none.
    let words = map (λ word. word.now) c.args.words.now in
    let same = c.in_ok-program.ensures in
    let met = (c.in-Ok.ensures.matches (simple _ same)).1 ∙ ap (λ app. subcommand_of app words) same in
    subst (λ m. AsksForTexts m c.has_flag.result) met c.has_flag.ensures
