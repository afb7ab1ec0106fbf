use Rattle.std.proofs.Common.{arith, rules, refl}
use Rattle.gob_num.proofs.PushedLaws.{NotPadded, AfterDigit, after_digit, padded_judged}
use Rattle.gob_num.proofs.number.Number.push.Goals as goal
use Rattle.gob_num.proofs.number.Number.push.Goals.{else-self-via-then-self+else-is_padded, else-self-via-else-self}
use Rattle.gob_num.proofs.number.Number.push.Goals.{Joined-else-self, After-from}

not_padded : (c : Joined-else-self) → NotPadded c.self.inside.count c.self.inside.left c.args.b
not_padded c e n =
    elim c.else-self.branch [
      | else-self-via-then-self+else-is_padded w ↦ search (rules, w.is_padded.ensures, w.if-is_padded.false)
      | else-self-via-else-self w ↦ w.if-self.false e
    ]

facts : (c : After-from)
    → AfterDigit c.self.inside.count c.self.inside.left c.self.inside.value c.args.b c.from.result c.args.self.now
facts c = after_digit _ _ _ _ _ _ c.self.invariant c.self.view_is c.if-self-eq0.false (omega arith) c.from.ensures
    (not_padded c.before)

pub returns-then-is_padded-clause-judged : goal.returns-then-is_padded-clause-judged
returns-then-is_padded-clause-judged c = padded_judged _ _ _ _ _ c.self.invariant c.self.view_is c.if-self-eq0.false
    c.if-self.true (search (rules, c.is_padded.ensures, c.if-is_padded.true))

pub overflow_mul-value : goal.overflow_mul-value
overflow_mul-value c =
    omega (
      arith,
      (after_digit _ _ _ _ _ c.args.self.now c.self.invariant c.self.view_is c.if-self-eq0.false
          (omega arith) refl (not_padded c)).fits,
    )

pub overflow_add-value : goal.overflow_add-value
overflow_add-value c = omega (arith, (facts c).fits)

pub returns-then-self-eq1-clause-judged : goal.returns-then-self-eq1-clause-judged
returns-then-self-eq1-clause-judged c = (facts (goal.at.returns-then-self-eq1-clause-judged c).After-from).done
    c.if-self-eq1.true

pub invariant_of-self-2 : goal.invariant_of-self-2
invariant_of-self-2 c = (facts (goal.at.invariant_of-self-2 c).After-from).counters c.if-self-eq1.false

pub returns-clause-judged : goal.returns-clause-judged
returns-clause-judged c = (facts (goal.at.returns-clause-judged c).After-from).prefix c.if-self-eq1.false

pub returns-clause-next : goal.returns-clause-next
returns-clause-next c = (facts (goal.at.returns-clause-next c).After-from).next c.if-self-eq1.false
