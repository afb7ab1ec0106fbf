use Rattle.std.proofs.Common.{◌-◌, length, ap, ◌∙◌}
use Rattle.std.specs.Prelude.{slice_get}
use Rattle.gob_go.proofs.NextCountSteps.{last_at, none_at}
use Rattle.gob_go.proofs.levels.Levels.end_around.Goals as goal

pub returns-in-Some : goal.returns-in-Some
returns-in-Some c = last_at c.args.self.now.outer.items c.in-Some.outer.now
    (c.in-Some.ensures.value ∙ ap (λ ls. slice_get ls (length ls - 1)) c.deref.ensures.value)

pub returns-in-None : goal.returns-in-None
returns-in-None c = none_at c.args.self.now.outer.items
    (c.in-None.ensures.value ∙ ap (λ ls. slice_get ls (length ls - 1)) c.deref.ensures.value)
