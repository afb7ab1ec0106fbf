-- The words are read off the rows of the one subcommand that was met.
use Rattle.std.proofs.Common.{◌∙◌, ℕ, List, None, ap, map}
use Rattle.std.proofs.lemmas.Result.{IfOk-weaker}
use Rattle.std.specs.Borrow.{Bor}
use Rattle.clap.specs.Words.{found_of, rows_of}
use Rattle.clap.proofs.WalkLemmas.{raw_values-rows}
use Rattle.gob_words.proofs.ViewLaws.{words_met}
use Rattle.gob_words.proofs.matched.words_among.Goals as goal

pub returns-in-Some-get_strs : goal.returns-in-Some-get_strs
returns-in-Some-get_strs c =
    let f = found_of c.in-Some.matches.now in
    let met = words_met c.args.name.now _ (rows_of f) _ c.in-Some.ensures.rows
    (c.in-Some-get_strs.ensures ∙ raw_values-rows f c.args.name.now) in
    IfOk-weaker c.to_vec.result _ _
    (λ v same. ap (map (λ (s : Bor (List ℕ)). s.now)) (same (λ x y e. e)) ∙ met)
    c.to_vec.ensures.items_if_clones_equal

pub returns-in-None : goal.returns-in-None
returns-in-None c =
    let f = found_of c.in-Some.matches.now in
    ap (map (λ (s : Bor (List ℕ)). s.now)) c.new-in-None.ensures.items
    ∙ words_met c.args.name.now _ (rows_of f) None c.in-Some.ensures.rows
    (c.in-None.ensures ∙ raw_values-rows f c.args.name.now)
