-- Where no bracket is open, and where no token follows, nothing is left to be copied.
use Rattle.std.proofs.Common.{◌≡◌, ◌∷◌, rules}
use Rattle.json.specs.Token.{Token}
use Rattle.json_parts.proofs.Copies.{copied, front_bad, behind_bad, front_closed, behind_closed, front_ended}
use Rattle.json_parts.proofs.Copies.{behind_ended}
use Rattle.json_parts.proofs.copy.copy_value.Goals as goal

pub returns-in-None-clause-copied : goal.returns-in-None-clause-copied
returns-in-None-clause-copied c =
    let i = c.tokens.invariant in
    let none = c.in-None.ensures.value in
    copied c.tokens.depth c.tokens.reader c.args.out.now.tokens i.written i.behind
    (front_ended c.tokens.depth c.tokens.reader none.0)
    (behind_ended c.tokens.depth c.tokens.reader c.next.new.self none.0 none.1)

pub returns-in-None-2-clause-copied : goal.returns-in-None-2-clause-copied
returns-in-None-2-clause-copied c =
    let i = c.tokens.invariant in
    let e : c.tokens.reader ≡ Token.bad ∷ c.next.new.self = search rules in
    copied c.tokens.depth c.tokens.reader c.args.out.now.tokens i.written i.behind
    (front_bad c.tokens.depth c.tokens.reader c.next.new.self e)
    (behind_bad c.tokens.depth c.tokens.reader c.next.new.self c.tokens-test.true e)

pub returns-clause-copied : goal.returns-clause-copied
returns-clause-copied c =
    let i = c.tokens.invariant in
    copied c.tokens.depth c.tokens.reader c.args.out.now.tokens i.written i.behind
    (front_closed c.tokens.depth c.tokens.reader c.tokens-test.false)
    (behind_closed c.tokens.depth c.tokens.reader c.tokens-test.false)
