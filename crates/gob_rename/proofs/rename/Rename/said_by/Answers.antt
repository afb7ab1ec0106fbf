-- The word is cut at its first equals sign.
use Rattle.std.proofs.Common.{◌∙◌, Some, None, arith, sym, true≢false}
use Rattle.std.proofs.lemmas.Str.Pattern.{split_parts}
use Rattle.gob_rename.proofs.WordLaws.{says_at}
use Rattle.gob_rename.proofs.rename.Rename.said_by.Goals as goal

pub returns-in_default : goal.returns-in_default
returns-in_default c = split_parts 61 c.args.word.now None c.in_default.ensures.cases (omega arith)

pub returns-then-has_empty_name : goal.returns-then-has_empty_name
returns-then-has_empty_name c =
    let parts = split_parts 61 c.args.word.now (Some (c.in-Some.place, c.in-Some.new)) c.in-Some.ensures.cases
    (omega arith) in (
      c.at_place-said.result,
      says_at parts.0 parts.1 c.at_place-said.ensures,
      c.has_empty_name.ensures.0 c.if-has_empty_name.true,
    )

pub returns : goal.returns
returns c =
    let parts = split_parts 61 c.args.word.now (Some (c.in-Some.place, c.in-Some.new)) c.in-Some.ensures.cases
    (omega arith) in (
      says_at parts.0 parts.1 c.at_place-said.ensures,
      λ empty. true≢false (sym (c.has_empty_name.ensures.1 empty) ∙ c.if-has_empty_name.false),
    )
