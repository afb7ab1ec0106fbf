use Rattle.std.proofs.Common.{◌≡◌, refl}
use Rattle.gob_stream.proofs.Reader.UnderWayLaws.{after_none, count_begins_here}
use Rattle.gob_stream.proofs.Reader.FinishSteps.{begins_at, ended_within}
use Rattle.gob_stream.proofs.session.Session.finish.Goals.{in_default-via-in-Count+else-count-self}
use Rattle.gob_stream.proofs.session.Session.finish.Goals.{in_default-via-in_default}
use Rattle.gob_stream.proofs.session.Session.finish.Goals as goal

pub returns-in-Count-clause-finishes : goal.returns-in-Count-clause-finishes
returns-in-Count-clause-finishes g c =
    rw (← c.self.view_is) (λ items bytes a. (
      after_none a (count_begins_here a c.in-Count.is c.if-count-self.true),
      refl,
    ))

pub returns-in_default-clause-finishes : goal.returns-in_default-clause-finishes
returns-in_default-clause-finishes g c =
    let same : c.in_default.self-inside ≡ c.self.inside = elim c.in_default.branch [
      | in_default-via-in-Count+else-count-self w ↦ w.self-inside-is
      | in_default-via-in_default w ↦ w.self-inside-is
    ] in
    rw (rw same at c.ended-fault.ensures, ← c.self.view_is) (λ items bytes a.
    ended_within a (λ e. elim c.in_default.branch [
      | in_default-via-in-Count+else-count-self w ↦ w.if-count-self.false (begins_at w.in-Count.is e)
      | in_default-via-in_default w ↦ w.in_default.not-Count _ e
    ]) refl)
