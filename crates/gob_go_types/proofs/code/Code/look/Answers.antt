-- A look goes on from place to place.
use Rattle.gob_go_types.specs.Sight.{seen, seen_on}
use Rattle.gob_go_types.proofs.SightLaws.{leads_led}
use Rattle.gob_go_types.proofs.code.Code.look.Goals as goal

pub looks-init : goal.looks-init
looks-init c = λ v h. h

pub looks-preserved : goal.looks-preserved
looks-preserved c = λ v h. c.looks.invariant v (seen_on (rw c.in-On.is at c.in_ok-step.ensures) h)

pub returns-in-At-clause-seen : goal.returns-in-At-clause-seen
returns-in-At-clause-seen c = c.looks.invariant _ (seen (rw c.in-At.is at c.in_ok-step.ensures))

pub returns-in-At-clause-led : goal.returns-in-At-clause-led
returns-in-At-clause-led c = leads_led c.args.self.now.source.now _ _ (rw c.in-At.is at c.in_ok-step.ensures)
