-- What is read of clap's matches is what the words say.
use Rattle.std.proofs.Common.{◌∙◌, ap, map, subst}
use Rattle.std.specs.Result.{IfOk}
use Rattle.clap.specs.Words.{subcommand_of}
use Rattle.gob_words.specs.Converting.{AsksOfConversion}
use Rattle.gob_words.proofs.WordLaws.{simple}
use Rattle.gob_words.proofs.converting.converting_of.Goals as goal

pub returns-in-Ok : goal.returns-in-Ok
returns-in-Ok c = λ none.
    let words = map (λ word. word.now) c.args.words.now in
    let same = c.in_ok-program.ensures in
    let met = (c.in-Ok.ensures.matches (simple _ same)).1 ∙ ap (λ app. subcommand_of app words) same in
    subst (λ m. IfOk c.converting_in.result (AsksOfConversion m)) met c.converting_in.ensures
