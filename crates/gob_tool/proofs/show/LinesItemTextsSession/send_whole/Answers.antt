-- The line of an item that waits as a whole is that of its value.
use Rattle.std.proofs.Common.{arith, refl, subst}
use Rattle.gob_types.specs.Defined.{types}
use Rattle.gob_value.specs.Whole.{IsWhole}
use Rattle.gob_stream.specs.Calls.Ends.{writer_of}
use Rattle.gob_stream.specs.Calls.Reader.{session_of}
use Rattle.gob_stream.specs.Calls.Session.{types_of}
use Rattle.gob_stream.specs.Item.{puts}
use Rattle.gob_tool.specs.Line.{line}
use Rattle.gob_tool.specs.Sending.{Sends}
use Rattle.gob_tool.specs.Texts.{of_unfilled}
use Rattle.gob_tool.proofs.ShowLaws.{next_whole}
use Rattle.gob_tool.proofs.show.LinesItemTextsSession.send_whole.Goals as goal

pub returns : goal.returns
returns g c =
    let item = c.in_ok-item.item in
    let w = c.in_ok-item.ensures in
    let depth = c.line_depth-depth.result in
    let old = g.W.Write.contents (writer_of c.args.output.now) in
    let new = g.W.Write.contents (writer_of c.send_item-sent.new.output) in
    let sent = (subst (λ d. (w : IsWhole (types d) item.id depth item.body.now)
    → Sends old new (line (types d) (puts item.id w.value)) c.send_item-sent.result)
    c.table.ensures c.send_item-sent.ensures.sent) w.whole in (
      line (types_of (session_of c.args.reader.now)) (puts item.id w.whole.value),
      record {
        told = puts item.id w.whole.value;
        item = next_whole (omega (arith, c.line_depth-depth.ensures)) w.between w.next w.whole;
        is = of_unfilled refl;
      },
      sent,
      c.send_item-sent.ensures.counted,
    )
