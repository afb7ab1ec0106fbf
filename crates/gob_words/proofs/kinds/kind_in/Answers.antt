-- A word that says something of a type says it by the parts around its first equals sign.
use Rattle.std.proofs.Common.{None, Some, arith}
use Rattle.std.proofs.lemmas.Str.Pattern.{split_parts}
use Rattle.gob_words.proofs.KindLaws.{says_by_parts, says_without_sign}
use Rattle.gob_words.proofs.kinds.kind_in.Goals as goal

pub returns-in_err-digits : goal.returns-in_err-digits
returns-in_err-digits c =
    let lacks = split_parts 61 c.args.word.now None c.in_err-digits.ensures.cases (omega arith) in
    rw c.from_residual.ensures (says_without_sign c.args.word.now lacks)

pub returns-in_err-id : goal.returns-in_err-id
returns-in_err-id c =
    let parts = split_parts 61 c.args.word.now (Some (c.in_ok-digits.digits, c.in_ok-digits.name))
    c.in_ok-digits.ensures.cases (omega arith) in
    rw c.from_residual-in_err-id.ensures (λ said h.
    c.in_err-id.ensures said.id (says_by_parts _ _ _ said parts.0 parts.1 h).id)

pub returns-in_err-kind : goal.returns-in_err-kind
returns-in_err-kind c =
    let parts = split_parts 61 c.args.word.now (Some (c.in_ok-digits.digits, c.in_ok-digits.name))
    c.in_ok-digits.ensures.cases (omega arith) in
    rw c.from_residual-in_err-kind.ensures (λ said h.
    c.in_err-kind.ensures said.kind (says_by_parts _ _ _ said parts.0 parts.1 h).kind)
