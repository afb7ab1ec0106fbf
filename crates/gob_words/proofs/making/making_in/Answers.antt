-- The types are read off the rows of the one subcommand that was met.
use Rattle.std.proofs.Common.{◌∙◌, codes, subst, sym}
use Rattle.clap.specs.Words.{found_of, rows_of}
use Rattle.clap.proofs.WalkLemmas.{first_value-rows}
use Rattle.gob_words.specs.Views.{IsGiven}
use Rattle.gob_words.proofs.WordLaws.{together}
use Rattle.gob_words.proofs.making.making_in.Goals as goal

pub returns : goal.returns
returns c =
    let f = found_of c.in_ok-matches.matches.now in
    let types = c.get_str.ensures ∙ first_value-rows f (codes "types") in
    let named = c.get_str-2.ensures ∙ first_value-rows f (codes "type") in
    let lenient = c.get_str-3.ensures ∙ first_value-rows f (codes "lenient") in
    record {
      name = c.in_ok-matches.field-0-0.now;
      rows = rows_of f;
      command = together _ _ _ _ _ c.in_ok-matches.ensures.name c.in_ok-matches.ensures.rows;
      types = sym types;
      named = sym named;
      lenient = subst (λ v. IsGiven v c.is_true.result) lenient c.is_true.ensures;
    }
