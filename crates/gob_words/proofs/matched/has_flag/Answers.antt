-- The flag is read off the rows of the one subcommand that was met.
use Rattle.std.proofs.Common.{◌∙◌, subst, sym}
use Rattle.clap.specs.Words.{found_of}
use Rattle.clap.proofs.WalkLemmas.{first_value-rows}
use Rattle.gob_words.specs.Views.{IsFlagIn, IsGiven}
use Rattle.gob_words.proofs.WordLaws.{together}
use Rattle.gob_words.proofs.matched.has_flag.Goals as goal

pub returns : goal.returns
returns c =
    let f = found_of c.in-Some.matches.now in
    let given = c.get_str.ensures ∙ first_value-rows f c.args.name.now in
    let met = together _ _ _ _ _ c.in-Some.ensures.name c.in-Some.ensures.rows in
    subst (λ m. IsFlagIn c.args.name.now m c.is_true.result) (sym met)
    (subst (λ v. IsGiven v c.is_true.result) given c.is_true.ensures)
