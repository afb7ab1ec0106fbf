-- What is received of the value that waits is made, and its text is sent.
use Rattle.std.proofs.Common.{arith, subst, sym}
use Rattle.gob_stream.specs.Item.{puts}
use Rattle.gob_tool.specs.Texts.{of_unfilled}
use Rattle.gob_types.specs.Defined.{Defined, types}
use Rattle.gob_types.specs.Ready.{IsReady}
use Rattle.gob_match.specs.Matching.{Match}
use Rattle.gob_match.specs.ReceivedWhole.{ReceivesWhole}
use Rattle.gob_tool.specs.Machine.Receiver.{KeepsKnown}
use Rattle.gob_tool.proofs.ShowLaws.{next_whole}
use Rattle.gob_tool.proofs.TakeRuns.{value_received}
use Rattle.gob_tool.proofs.received.ReceiverTextStepsSessionTreeBuilder.send_whole.Goals as goal

pub receive_whole-requires : goal.receive_whole-requires
receive_whole-requires g c =
    let same = sym c.table.ensures in (
      omega arith,
      (
        subst (λ (D : Defined). KeepsKnown (types D) (types c.args.self.now.wanted.now) c.args.self.now.wanted_id
            c.args.kept.now) same c.requires.known,
        (
          subst (λ (D : Defined). IsReady (types D) c.in_ok-item.item.id) same c.in_ok-item.ensures.next.may.ready,
          c.requires.ready,
        ),
      ),
    )

pub returns-clause-sent : goal.returns-clause-sent
returns-clause-sent g c =
    let item = c.in_ok-item.item in
    let w = c.in_ok-item.ensures in
    let depth = c.line_depth-depth.result in
    let receiver = c.args.self.now in
    let U = types receiver.wanted.now in
    let u = receiver.wanted_id in
    let T = types c.table.result.now in
    let v = subst (λ (D : Defined). ReceivesWhole (types D) U item.id u depth item.body.now c.deref.result.now)
    c.table.ensures (subst (ReceivesWhole T U item.id u depth item.body.now) (sym c.deref.ensures.value)
    (c.receive_whole.ensures.received c.if-not-receive_whole.false)) in
    let m = subst (λ (D : Defined). Match (types D) U item.id u) c.table.ensures
    (c.receive_whole.ensures.matched c.if-not-receive_whole.false) in
    let sent = c.in_ok-sent.ensures (record { value = v.made; spelled = v.made_spelled; within = v.made_within }) in (
      sent.0,
      record {
        told = puts item.id v.value;
        item = next_whole (omega (arith, c.line_depth-depth.ensures)) w.between w.next
            (record { value = v.value; spelled = v.spelled; within = v.within });
        is = of_unfilled (value_received item.id v.value v.made m v.receives sent.1);
      },
      sent.2,
      sent.3,
    )
