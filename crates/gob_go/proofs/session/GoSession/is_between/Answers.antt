use Rattle.std.proofs.lemmas.Bool.{eqb-true}
use Rattle.gob_go.proofs.WholeSteps.{between_at}
use Rattle.gob_go.proofs.session.GoSession.is_between.Goals as goal

pub returns-in-Count-clause-between : goal.returns-in-Count-clause-between
returns-in-Count-clause-between c =
    rw (← c.self.view_is) (λ same. between_at c.self.invariant c.in-Count.is (eqb-true _ _ same))
