use Rattle.std.proofs.Common.{◌≡◌, ◌∙◌, refl, sym, true}
use Rattle.gob_go.proofs.FinishSteps.{after_none, count_begins_here, ended_within, one_begin}
use Rattle.gob_go.proofs.session.GoSession.finish.Goals.{in_default-via-in-Count+else-count-self}
use Rattle.gob_go.proofs.session.GoSession.finish.Goals.{in_default-via-in_default}
use Rattle.gob_go.proofs.session.GoSession.finish.Goals as goal

pub returns-in-Count-clause-any : goal.returns-in-Count-clause-any
returns-in-Count-clause-any c =
    rw (← c.self.view_is) (λ keep items bytes a. (
      after_none a (count_begins_here a c.in-Count.is c.if-count-self.true),
      refl,
    ))

pub returns-in_default-clause-any : goal.returns-in_default-clause-any
returns-in_default-clause-any c =
    let same : c.in_default.self-inside ≡ c.self.inside = elim c.in_default.branch [
      | in_default-via-in-Count+else-count-self w ↦ w.self-inside-is
      | in_default-via-in_default w ↦ w.self-inside-is
    ] in
    rw (rw same at c.ended-fault.ensures, ← c.self.view_is) (λ keep items bytes a.
    ended_within a (λ at e f. elim c.in_default.branch [
      | in_default-via-in-Count+else-count-self w ↦ w.if-count-self.false (sym (one_begin e w.in-Count.is) ∙ f)
      | in_default-via-in_default w ↦ w.in_default.not-Count _ e
    ]) refl)

pub returns-in-Count-clause-finishes : goal.returns-in-Count-clause-finishes
returns-in-Count-clause-finishes c = returns-in-Count-clause-any c true

pub returns-in_default-clause-finishes : goal.returns-in_default-clause-finishes
returns-in_default-clause-finishes c = returns-in_default-clause-any c true
