use Rattle.std.proofs.Common.{arith, ◌∷◌, [], sym, subst}
use Rattle.gob_num.specs.Unsigned.{IsUnsigned, short}
use Rattle.gob_num.proofs.PrefixLaws.{begins_prefix}
use Rattle.gob_num.proofs.PushedLaws.{begun}
use Rattle.gob_num.proofs.number.Number.begin.Goals as goal

pub returns-then-b-lt128-clause-judged : goal.returns-then-b-lt128-clause-judged
returns-then-b-lt128-clause-judged c = subst (λ n. IsUnsigned n (c.args.b ∷ [])) (sym c.from.ensures)
    (short c.if-b-lt128.true)

pub invariant_of-self : goal.invariant_of-self
invariant_of-self c = (begun c.args.b c.digits_after-count.result c.if-b-lt-LEAST_HEAD.false (omega arith)
    c.digits_after-count.ensures).0

pub returns-clause-judged : goal.returns-clause-judged
returns-clause-judged c = begins_prefix (c.if-b-lt-LEAST_HEAD.false, omega arith)

pub returns-clause-next : goal.returns-clause-next
returns-clause-next c = (begun c.args.b c.digits_after-count.result c.if-b-lt-LEAST_HEAD.false (omega arith)
    c.digits_after-count.ensures).1
