-- Each word goes behind those before it.
use Rattle.std.proofs.Common.{rules, ◌≡◌, ◌++◌, [], ◌∷◌, Some, None, arith, refl}
use Rattle.std.proofs.lemmas.Str.Pattern.{split_parts}
use Rattle.gob_c.proofs.RenameLaws.{all_words, begins_with_none, one_more, shorter}
use Rattle.gob_c.proofs.renames.words_in.Goals as goal

pub words-init : goal.words-init
words-init c =
    (search rules, begins_with_none c.args.text.now c.args.text.now _ c.new-words.ensures.items refl)

pub words-preserved : goal.words-preserved
words-preserved c =
    let parts = split_parts 0 c.words.rest.now (Some (c.in-Some.word, c.in-Some.behind)) c.in-Some.ensures.cases
    (omega arith) in
    let pushed : c.push.new.self.items ≡ c.words.words.items ++ c.in-Some.word ∷ [] = search rules in (
      search rules,
      one_more c.args.text.now c.words.rest.now c.words.words.items c.push.new.self.items c.in-Some.word
          c.in-Some.behind parts.0 parts.1 pushed c.words.invariant.1,
    )

pub words-smaller : goal.words-smaller
words-smaller c =
    let parts = split_parts 0 c.words.rest.now (Some (c.in-Some.word, c.in-Some.behind)) c.in-Some.ensures.cases
    (omega arith) in
    shorter c.words.rest.now c.in-Some.word.now c.in-Some.behind.now parts.0

pub returns : goal.returns
returns c =
    all_words c.args.text.now c.words.rest.now c.words.words.items
    (split_parts 0 c.words.rest.now None c.in_default.ensures.cases (omega arith)) c.words.invariant.1
