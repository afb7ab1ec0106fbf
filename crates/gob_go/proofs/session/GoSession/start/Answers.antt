use Rattle.std.proofs.Common.{◌∙◌}
use Rattle.gob_go.proofs.SessionSteps.{new_stands, usable}
use Rattle.gob_go.proofs.session.GoSession.start.Goals as goal

pub invariant_of-result : goal.invariant_of-result
invariant_of-result c = usable (new_stands c.in_ok-types.ensures.base (c.in_ok-types.ensures.most
    ∙ c.types.ensures.types) c.new-2.ensures)

pub returns-clause-stands : goal.returns-clause-stands
returns-clause-stands c = new_stands c.in_ok-types.ensures.base (c.in_ok-types.ensures.most ∙ c.types.ensures.types)
    c.new-2.ensures
