-- The words are read off the rows of the one subcommand that was met.
use Rattle.std.proofs.Common.{◌∙◌, List, None, codes, sym, subst}
use Rattle.std.proofs.Common.{MatchResult}
use Rattle.clap.specs.Words.{Text, found_of, rows_of}
use Rattle.clap.proofs.WalkLemmas.{raw_values-rows}
use Rattle.gob_words.specs.Kinds.{SayKinds}
use Rattle.gob_words.specs.Views.{SaysNoKinds}
use Rattle.gob_words.proofs.KindLaws.{says_nothing}
use Rattle.gob_words.proofs.ViewLaws.{no_words_met, words_met}
use Rattle.gob_words.proofs.views.kinds_met.Goals as goal

pub returns-in-Some-get_strs : goal.returns-in-Some-get_strs
returns-in-Some-get_strs c =
    let f = found_of c.in-Some.matches.now in
    let met = words_met (codes "as") _ (rows_of f) _ c.in-Some.ensures.rows
    (c.in-Some-get_strs.ensures ∙ raw_values-rows f (codes "as")) in
    subst (λ (words : List Text). MatchResult c.kinds_in.result (λ kinds. SayKinds words kinds.items)
    (SaysNoKinds words)) met c.kinds_in.ensures

pub returns-in-None : goal.returns-in-None
returns-in-None c =
    let f = found_of c.in-Some.matches.now in
    says_nothing _ _ (sym (words_met (codes "as") _ (rows_of f) None c.in-Some.ensures.rows
    (c.in-None.ensures ∙ raw_values-rows f (codes "as")))) c.new-in-None.ensures.items

pub returns-in_default : goal.returns-in_default
returns-in_default c = says_nothing _ _ (no_words_met (codes "as") _ c.in_default.ensures.rows) c.new.ensures.items
