-- The text of the ints is that of what is told of them.
use Rattle.std.proofs.Common.{List, ℕ, false, refl, subst, sym}
use Rattle.gob_walk.proofs.PublicLaws.{sends_so}
use Rattle.gob_json.proofs.EventLaws.{elements_text}
use Rattle.gob_json.proofs.text.exact.ExactVisitor.ints.Goals as goal

pub returns-then-known-clause-sent : goal.returns-then-known-clause-sent
returns-then-known-clause-sent g c = λ T e limit vs rest is b counted.
    (sends_so {A = Unit {0}}
    (λ r p. (
      tt,
      (
        refl,
        subst (λ (l : List ℕ). g.O.TextOut.puts c.args.self.now.out.now c.put_integers.new.out l r)
            (sym (elements_text false T e vs)) p,
      ),
    ))
    (c.put_integers.ensures.sent T e limit vs rest is b counted)).1

pub returns-then-known-clause-stands : goal.returns-then-known-clause-stands
returns-then-known-clause-stands g c = rw c.if-known.true c.put_integers.ensures.stands

pub returns-clause-sent : goal.returns-clause-sent
returns-clause-sent g c = λ T e limit vs rest is b counted.
    (sends_so {A = Unit {0}}
    (λ r p. (
      tt,
      (
        refl,
        subst (λ (l : List ℕ). g.O.TextOut.puts c.args.self.now.out.now c.put_integers-2.new.out l r)
            (sym (elements_text false T e vs)) p,
      ),
    ))
    (c.put_integers-2.ensures.sent T e limit vs rest is b counted)).1

pub returns-clause-stands : goal.returns-clause-stands
returns-clause-stands g c = rw c.if-known.false c.put_integers-2.ensures.stands
