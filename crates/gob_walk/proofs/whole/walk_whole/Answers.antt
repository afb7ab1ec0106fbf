-- The value behind its tag, up to the end of the body.
use Rattle.std.proofs.Common.{arith, [], sym}
use Rattle.std.proofs.lemmas.Result.{IfOk-from_err}
use Rattle.gob_walk.specs.Told.{Reaches}
use Rattle.gob_walk.proofs.AnswerLaws.{ended_so}
use Rattle.gob_walk.proofs.StandingLaws.{no_shape_top}
use Rattle.gob_walk.proofs.WholeLaws.{ended_there, item_begins, item_tagged, whole_item}
use Rattle.gob_walk.proofs.whole.walk_whole.Goals as goal

pub returns-in_default-clause-sent : goal.returns-in_default-clause-sent
returns-in_default-clause-sent g c = λ v p deep. absurd (no_shape_top (sym c.in_default.ensures) p)

pub returns-in_default-behind_tag-clause-sent : goal.returns-in_default-behind_tag-clause-sent
returns-in_default-behind_tag-clause-sent g c = λ v p deep.
    let none = c.behind_tag.ensures.none c.in_default-behind_tag.is in
    absurd (item_tagged c.in-Some.shape.now (sym c.in-Some.ensures) none.0 none.1 p)

pub returns-in_err-end-clause-sent : goal.returns-in_err-end-clause-sent
returns-in_err-end-clause-sent g c = λ v p deep.
    ended_so (Reaches g.V.Visitor.tells) c.from_residual.result c.from_residual.ensures.1
    (c.in_err-end.ensures.sent c.args.id v [] (sym c.in-Some.ensures)
    (item_begins c.in-Some.shape.now c.in-Some-behind_tag.begin c.args.body.now (sym c.in-Some.ensures)
    c.in-Some-behind_tag.ensures.begins deep p)).put

pub returns-then-end-body-clause-sent : goal.returns-then-end-body-clause-sent
returns-then-end-body-clause-sent g c = λ v p deep.
    let s = c.in_ok-end.ensures.sent c.args.id v [] (sym c.in-Some.ensures)
    (item_begins c.in-Some.shape.now c.in-Some-behind_tag.begin c.args.body.now (sym c.in-Some.ensures)
    c.in-Some-behind_tag.ensures.begins deep p) in
    absurd (c.if-end-body.true (ended_there c.args.body.now c.in_ok-end.end c.in_ok-end.ensures.stands.inside s.behind))

pub returns-clause-sent : goal.returns-clause-sent
returns-clause-sent g c = λ v p deep.
    (c.in_ok-end.ensures.sent c.args.id v [] (sym c.in-Some.ensures)
    (item_begins c.in-Some.shape.now c.in-Some-behind_tag.begin c.args.body.now (sym c.in-Some.ensures)
    c.in-Some-behind_tag.ensures.begins deep p)).put

pub returns-in_err-end-clause-whole : goal.returns-in_err-end-clause-whole
returns-in_err-end-clause-whole g c = λ looked. IfOk-from_err c.from_residual.result _ c.from_residual.ensures.0

pub returns-clause-whole : goal.returns-clause-whole
returns-clause-whole g c = λ looked. whole_item c.in-Some.shape.now c.in-Some-behind_tag.begin
    c.in_ok-end.end c.args.body.now
    (sym c.in-Some.ensures) c.in-Some-behind_tag.ensures.begins (omega arith) (c.in_ok-end.ensures.stands.stands looked)
