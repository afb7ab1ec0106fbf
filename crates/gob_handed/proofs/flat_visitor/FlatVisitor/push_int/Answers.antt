-- The int stands there, and its node is told.
use Rattle.gob_walk.specs.Told.{Reaches, as_stop}
use Rattle.gob_walk.proofs.EndLaws.{end_seen}
use Rattle.gob_walk.proofs.PublicLaws.{end_as, number_first, reached}
use Rattle.gob_walk.proofs.TellLaws.{int_sent}
use Rattle.gob_read.specs.Leaf.{signed_of}
use Rattle.gob_value.proofs.WholeSteps.{int_begins}
use Rattle.gob_handed.specs.Machine.Gathered.{tells_flat}
use Rattle.gob_handed.proofs.GatheredLaws.{int_gathered, signed_spelled}
use Rattle.gob_handed.proofs.flat_visitor.FlatVisitor.push_int.Goals as goal

pub returns-in_default-clause-sent : goal.returns-in_default-clause-sent
returns-in_default-clause-sent c = λ T t v rest b.
    let n = number_first b in absurd (c.number_at.ensures.none c.in_default.is n.0 n.1 n.2)

pub returns-clause-sent : goal.returns-clause-sent
returns-clause-sent c = λ T t v rest b.
    let n = c.in-Some.number in
    int_sent (Reaches tells_flat) t c.args.body.now c.args.at c.in-Some.end (as_stop c.push.result)
    c.closed.result c.closed.ensures n (signed_of n) c.in-Some.ensures.found (signed_spelled n)
    (reached tells_flat c.push.result
    (int_gathered c.args.self.now c.push.new.self n c.push.result c.push.ensures)) b

pub returns-clause-stands : goal.returns-clause-stands
returns-clause-stands c = end_as _ c.in-Some.end (as_stop c.push.result) c.closed.result c.closed.ensures
    (λ T. end_seen c.in-Some.ensures.stands (int_begins T _ c.in-Some.number))
