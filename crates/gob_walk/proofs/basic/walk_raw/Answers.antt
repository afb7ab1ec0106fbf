-- The bytes behind their count.
use Rattle.gob_value.proofs.WholeSteps.{opaque_begins}
use Rattle.gob_walk.specs.Told.{Reaches, as_stop}
use Rattle.gob_walk.proofs.EndLaws.{end_of_raw, end_seen}
use Rattle.gob_walk.proofs.StandingLaws.{count_first, opaque_parts, these_begin, bytes_enough, bytes_found}
use Rattle.gob_walk.proofs.AnswerLaws.{reached, end_as}
use Rattle.gob_walk.proofs.TellLaws.{opaque_sent}
use Rattle.gob_walk.proofs.basic.walk_raw.Goals as goal

pub returns-in_default-clause-sent : goal.returns-in_default-clause-sent
returns-in_default-clause-sent g c = λ T t m v rest is b.
    let n = count_first b in absurd (c.number_at.ensures.none c.in_default.is n.0 n.1 n.2)

pub returns-in_default-bytes_at-clause-sent : goal.returns-in_default-bytes_at-clause-sent
returns-in_default-bytes_at-clause-sent g c = λ T t m v rest is b.
    absurd (bytes_enough c.args.body.now c.args.at c.in-Some.begin c.in-Some.ensures.stands.inside
    c.in-Some.ensures.found (these_begin (opaque_parts b.spelled) b.whole)
    (c.bytes_at.ensures.none c.in_default-bytes_at.is))

pub returns-clause-sent : goal.returns-clause-sent
returns-clause-sent g c = λ T t m v rest is b.
    opaque_sent (Reaches g.V.Visitor.tells) t c.args.body.now c.args.at c.in-Some-bytes_at.end
    (as_stop c.raw.result)
    c.closed.result c.closed.ensures m c.args.shape.now c.in-Some-bytes_at.bytes.now
    (bytes_found c.args.body.now c.args.at c.in-Some.begin c.in-Some.ensures.found c.in-Some-bytes_at.ensures.bytes
    c.in-Some-bytes_at.ensures.end) is (reached g.V.Visitor.tells c.raw.result c.raw.ensures) b

pub returns-clause-stands : goal.returns-clause-stands
returns-clause-stands g c =
    end_as _ c.in-Some-bytes_at.end (as_stop c.raw.result) c.closed.result c.closed.ensures
    (λ T m. end_seen (end_of_raw c.in-Some.ensures.stands c.in-Some-bytes_at.ensures.enough
    c.in-Some-bytes_at.ensures.end)
    (opaque_begins T _ m))
