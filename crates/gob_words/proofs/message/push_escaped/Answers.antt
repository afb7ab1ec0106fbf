-- What is written for a character that is obeyed is its escape.
use Rattle.std.proofs.Common.{◌∙◌, sym}
use Rattle.gob_words.proofs.EscapedLaws.{writes_escape}
use Rattle.gob_words.proofs.message.push_escaped.Goals as goal

pub returns-then-is_obeyed : goal.returns-then-is_obeyed
returns-then-is_obeyed c =
    let obeyed = sym c.is_obeyed.ensures ∙ c.if-is_obeyed.true in
    writes_escape _ _ _ _ _ _ c.in_radix.ensures c.from-number.ensures obeyed c.write.ensures.bytes
