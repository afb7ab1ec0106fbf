use Rattle.std.proofs.Common.{arith, sym}
use Rattle.gob_read.proofs.Machine.Bodies.{announced_left, room_announced, taken_now, run_at_nil}
use Rattle.gob_read.proofs.reader.BodyReader.announce.Goals as goal

pub returns-in-Some-clause-read : goal.returns-in-Some-clause-read
returns-in-Some-clause-read g c = λ T t limit announced z fits h.
    let n = taken_now T t limit announced _ c.in-Some.run' z (sym c.in-Some.is) h in
    announced_left announced c.args.left c.saturating_add-run.result (sym c.in-Some.is) h
    (let e = c.saturating_add-run.ensures in omega arith)

pub returns-in-Some-clause-room : goal.returns-in-Some-clause-room
returns-in-Some-clause-room g c = λ T t limit announced z fits some h t' limit' announced' z' h'.
    let n = taken_now T t limit announced _ c.in-Some.run' z (sym c.in-Some.is) h in
    room_announced t limit announced z c.args.left c.saturating_add-run.result (sym c.in-Some.is) h some
    (let e = c.saturating_add-run.ensures in omega arith) t' limit' announced' z' h'

pub returns-in-Some-clause-at_nil : goal.returns-in-Some-clause-at_nil
returns-in-Some-clause-at_nil g c = λ T n.
    let k = run_at_nil c.in-Some.run' (sym c.in-Some.is) n in
    record { id = k.id; expected = k.expected; kind = k.kind }
