use Rattle.gob_go_lines.proofs.LineLaws.{nothing_left}
use Rattle.gob_go_lines.proofs.line.read_whole.Goals as goal

pub returns-in-Some-clause-whole : goal.returns-in-Some-clause-whole
returns-in-Some-clause-whole c = λ id b says w.
    nothing_left (c.in_ok-said.ensures.whole id b says).1 c.in-Some.ensures.value
