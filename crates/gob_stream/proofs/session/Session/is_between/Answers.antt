use Rattle.std.proofs.lemmas.Bool.{eqb-true}
use Rattle.gob_stream.proofs.Reader.WholeSteps.{between_at}
use Rattle.gob_stream.proofs.session.Session.is_between.Goals as goal

pub returns-in-Count-clause-between : goal.returns-in-Count-clause-between
returns-in-Count-clause-between g c =
    rw (← c.self.view_is) (λ same. between_at c.in-Count.is (eqb-true _ _ same))
