-- What is read of clap's matches is what the words say.
use Rattle.std.proofs.Common.{◌∙◌, MatchResult, ap, map, subst}
use Rattle.clap.specs.Words.{subcommand_of}
use Rattle.gob_words.specs.Making.{AsksToMake, RefusesToMake}
use Rattle.gob_words.proofs.WordLaws.{simple}
use Rattle.gob_words.proofs.making.making_of.Goals as goal

pub returns-in-Ok : goal.returns-in-Ok
returns-in-Ok c = λ none.
    let words = map (λ word. word.now) c.args.words.now in
    let same = c.in_ok-program.ensures in
    let met = (c.in-Ok.ensures.matches (simple _ same)).1 ∙ ap (λ app. subcommand_of app words) same in
    subst (λ m. MatchResult c.making_met.result (AsksToMake m) (RefusesToMake m)) met c.making_met.ensures
