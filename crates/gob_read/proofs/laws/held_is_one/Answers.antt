use Rattle.std.proofs.Common.{sym, subst}
use Rattle.gob_read.proofs.Grammar.HeldLaws.{body_came, held_once, held_few}
use Rattle.gob_read.specs.Held.{PartialBody}
use Rattle.gob_read.proofs.laws.held_is_one.Goals as goal

pub returns-clause-some : goal.returns-clause-some
returns-clause-some c T t limit announced z s =
    let b = body_came s.expects s.within in
    (b.parts, b.raws, subst (λ z. PartialBody T t z b.parts b.raws) (sym s.whole) b.holds)

pub returns-clause-one : goal.returns-clause-one
returns-clause-one c T t stores z held other h o = held_once stores h o

pub returns-clause-few : goal.returns-clause-few
returns-clause-few c T t stores z held h = held_few stores h
