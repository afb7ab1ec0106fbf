use Rattle.gob_go.proofs.KeepingSteps.{stands_keeping, usable_keeping}
use Rattle.gob_go.proofs.session.GoSession.keep.Goals as goal

pub returns-clause-stands : goal.returns-clause-stands
returns-clause-stands c =
    let between = rw (← c.self.view_is) at c.requires.between in
    rw (← c.self.view_is) (λ keep items bytes a. stands_keeping c.args.keeps between a)

pub invariant_of-self : goal.invariant_of-self
invariant_of-self c =
    let between = rw (← c.self.view_is) at c.requires.between in
    usable_keeping c.args.keeps between c.self.invariant
