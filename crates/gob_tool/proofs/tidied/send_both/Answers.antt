use Rattle.gob_stream.specs.Calls.Ends.{writer_of}
use Rattle.gob_tool.specs.Sending.{sends_both, sends_more}
use Rattle.gob_tool.proofs.TidiedLaws.{sends_so, sent_at}
use Rattle.gob_tool.proofs.tidied.send_both.Goals as goal

pub returns-in_err-send_all-clause-sent : goal.returns-in_err-send_all-clause-sent
returns-in_err-send_all-clause-sent g c =
    let e = c.in_err-send_all.field-0.0 in
    sent_at c.from_residual.result e c.from_residual.ensures.1
    (sends_more (g.W.Write.contents (writer_of c.args.output.now)) (g.W.Write.contents (writer_of c.send_all.new.self))
    c.args.first.now c.args.second.now e (c.in_err-send_all.ensures.fault, c.in_err-send_all.ensures.prefix))

pub returns-clause-sent : goal.returns-clause-sent
returns-clause-sent g c =
    sends_both (g.W.Write.contents (writer_of c.args.output.now)) (g.W.Write.contents (writer_of c.send_all.new.self))
    (g.W.Write.contents (writer_of c.send_all-2.new.self)) c.args.first.now c.args.second.now c.send_all-2.result
    c.in_ok-send_all.ensures.ok
    (sends_so _ _ _ c.send_all-2.result c.send_all-2.ensures.ok c.send_all-2.ensures.prefix c.send_all-2.ensures.fault)
