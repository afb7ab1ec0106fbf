-- The directory and the size are read off the rows of the one subcommand that was met.
use Rattle.std.proofs.Common.{◌∙◌, ap, codes, sym}
use Rattle.clap.specs.Words.{found_of, rows_of, subcommand_rows_of}
use Rattle.clap.proofs.WalkLemmas.{first_value-rows}
use Rattle.gob_words.specs.Words.{text_of}
use Rattle.gob_words.proofs.SizeLaws.{sized_alike, split_meets}
use Rattle.gob_words.proofs.WordLaws.{together}
use Rattle.gob_words.proofs.splitting.splitting_in.Goals as goal

pub returns-in_err-directory : goal.returns-in_err-directory
returns-in_err-directory c =
    let f = found_of c.in_ok-matches.matches.now in
    let met = together _ _ _ _ _ c.in_ok-matches.ensures.name c.in_ok-matches.ensures.rows in
    let word = c.get_str.ensures ∙ first_value-rows f (codes "DIR") in
    rw c.from_residual-in_err-directory.ensures (λ splitting h.
    let given = split_meets (subcommand_rows_of c.args.matches.now) _ (rows_of f) splitting met h in
    let none = sym (ap text_of c.in_err-directory.was) ∙ word ∙ given.directory in
    absurd (cc none))

pub returns-in_err-size : goal.returns-in_err-size
returns-in_err-size c =
    let f = found_of c.in_ok-matches.matches.now in
    let met = together _ _ _ _ _ c.in_ok-matches.ensures.name c.in_ok-matches.ensures.rows in
    let bytes = c.get_str-2.ensures ∙ first_value-rows f (codes "size") in
    let values = c.get_str-3.ensures ∙ first_value-rows f (codes "values") in
    rw c.from_residual-in_err-size.ensures (λ splitting h.
    let given = split_meets (subcommand_rows_of c.args.matches.now) _ (rows_of f) splitting met h in
    c.in_err-size.ensures splitting.size (sized_alike _ _ _ _ splitting.size (sym bytes) (sym values) given.size))

pub returns : goal.returns
returns c =
    let f = found_of c.in_ok-matches.matches.now in
    let bytes = c.get_str-2.ensures ∙ first_value-rows f (codes "size") in
    let values = c.get_str-3.ensures ∙ first_value-rows f (codes "values") in
    let word = c.get_str.ensures ∙ first_value-rows f (codes "DIR") in
    record {
      name = c.in_ok-matches.field-0-0.now;
      rows = rows_of f;
      command = together _ _ _ _ _ c.in_ok-matches.ensures.name c.in_ok-matches.ensures.rows;
      directory = sym word ∙ ap text_of c.in_ok-directory.was;
      size = sized_alike _ _ _ _ c.in_ok-size.size bytes values c.in_ok-size.ensures;
    }
