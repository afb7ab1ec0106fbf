use Rattle.std.proofs.Common.{refl, Some, subst, sym, w64}
use Rattle.std.proofs.lemmas.Int.{to_z_pos}
use Rattle.gob_types.specs.Defined.{types}
use Rattle.gob_stream.specs.Calls.Ends.{failed_writes, writer_of}
use Rattle.gob_stream.specs.Item.{puts}
use Rattle.gob_tool.specs.Line.{line}
use Rattle.gob_tool.specs.Machine.Received.{SendsReceived}
use Rattle.gob_tool.proofs.FormLaws.{sends_numbered}
use Rattle.gob_tool.proofs.receiver.Receiver.send.Goals as goal

pub returns-in-Line : goal.returns-in-Line
returns-in-Line g c =
    let receiver = c.args.self.now in
    let U = types receiver.wanted.now in
    subst (λ how. SendsReceived how U receiver.wanted_id c.args.depth c.args.body.now
    (failed_writes c.args.output.now) (failed_writes c.send_item.new.output)
    (g.W.Write.contents (writer_of c.args.output.now)) (g.W.Write.contents (writer_of c.send_item.new.output))
    (Some c.send_item.result)) (sym c.in-Line.is)
    (λ w. (line U (puts receiver.wanted_id w.value), refl, c.send_item.ensures.sent w, c.send_item.ensures.counted))

pub returns-in-Item : goal.returns-in-Item
returns-in-Item g c =
    let receiver = c.args.self.now in
    let U = types receiver.wanted.now in
    let u = receiver.wanted_id in
    let failures = failed_writes c.args.output.now in
    let failures' = failed_writes c.send_content.new.output in
    let old = g.W.Write.contents (writer_of c.args.output.now) in
    let new = g.W.Write.contents (writer_of c.send_content.new.output) in
    subst (λ how. SendsReceived how U u c.args.depth c.args.body.now failures failures' old new c.send_content.result)
    (sym c.in-Item.is)
    (sends_numbered U u c.args.depth failures failures' c.args.body.now old new _
    (to_z_pos w64 u.0 c.requires.number) c.send_content.result c.send_content.ensures)
