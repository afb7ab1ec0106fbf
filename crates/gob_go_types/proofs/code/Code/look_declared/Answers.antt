-- A look from a declaration goes on at a place, or ends.
use Rattle.gob_go_types.specs.declared.sight.Sight.{Sight}
use Rattle.gob_go_types.specs.Sight.{Seen, SeenFrom, seen_behind, seen_there}
use Rattle.gob_go_types.proofs.SightLaws.{from_led, if_ok}
use Rattle.gob_go_types.proofs.code.Code.look_declared.Goals as goal

pub returns-in-On-clause-seen : goal.returns-in-On-clause-seen
returns-in-On-clause-seen c =
    if_ok (λ (v : Sight). Seen c.args.self.now.source.now v c.in-On.next)
    (λ (v : Sight). SeenFrom c.args.self.now.source.now c.args.place v) c.look.result
    (λ v h. seen_behind (rw c.in-On.is at c.in_ok-step.ensures) h) c.look.ensures.seen

pub returns-in-At-clause-seen : goal.returns-in-At-clause-seen
returns-in-At-clause-seen c = seen_there (rw c.in-At.is at c.in_ok-step.ensures)

pub returns-in-At-clause-led : goal.returns-in-At-clause-led
returns-in-At-clause-led c =
    from_led c.args.self.now.source.now c.args.place _ (rw c.in-At.is at c.in_ok-step.ensures)
