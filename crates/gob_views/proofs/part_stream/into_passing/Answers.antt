use Rattle.std.proofs.Common.{◌∙◌, rules}
use Rattle.gob_go.specs.GoStepping.{go_stepping, passing_stepping}
use Rattle.gob_views.proofs.EachRuns.{as_other}
use Rattle.gob_views.proofs.part_stream.into_passing.Goals as goal

pub returns-clause-read : goal.returns-clause-read
returns-clause-read c = λ read now given h.
    as_other go_stepping passing_stepping h (c.from_parts.ensures.ahead ∙ c.into_parts-session.ensures.ahead)
    (rw c.from_parts.ensures.session
    (c.into_passing.ensures.stands given h.taken (rw c.into_parts-session.ensures.session h.gave)))
    (search rules)
