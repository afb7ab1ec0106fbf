-- All bytes are one piece, behind which the stream ends.
use Rattle.std.proofs.Common.{[]}
use Rattle.gob_counted.proofs.CountLaws.{bytes_counted, bytes_refused}
use Rattle.gob_counted.proofs.check.count_all.Goals as goal

pub returns-in_err-feed : goal.returns-in_err-feed
returns-in_err-feed g c = λ h.
    let e = c.in_err-feed.field-0.0 in
    bytes_refused g.S.Steps.stepping c.args.bytes.now c.args.counter.now c.feed.new.self
    c.from_residual.result e c.from_residual.ensures.1 (c.in_err-feed.ensures.counted [] [] h)

pub returns : goal.returns
returns g c = λ h.
    let all = c.in_ok-feed.ensures.counted [] [] h in
    bytes_counted g.S.Steps.stepping _ c.args.bytes.now c.feed.new.self all.more _
    c.finish.result c.in_ok-feed.ensures.limits c.finish.ensures.tally all.counted
    (c.finish.ensures.ended all.more c.args.bytes.now all.counted)
