-- A value is received, and its text is made.
use Rattle.std.proofs.Common.{arith, ◌∷◌, [], subst, sym}
use Rattle.gob_types.specs.Defined.{types}
use Rattle.gob_value.specs.View.{view}
use Rattle.gob_stream.specs.Item.{item_view}
use Rattle.gob_tool.specs.Machine.Receiver.{is_received_of_item, ReceivesNone}
use Rattle.gob_tool.specs.Machine.Taken.{AreSent}
use Rattle.gob_tool.specs.Machine.Received.{definition, no_item}
use Rattle.gob_tool.proofs.EndLaws.{fault_at}
use Rattle.gob_tool.proofs.TakeRuns.{clash_given, sent_fits, sent_ready, value_received}
use Rattle.gob_tool.proofs.received.push_received.Goals as goal

pub receive-requires : goal.receive-requires
receive-requires g c =
    let sent = subst (λ i. AreSent (types c.args.stream.now) (item_view i ∷ [])) c.in-Put.is c.requires.sent in (
      omega arith,
      (rw c.in-Put.is at c.requires.known, (sent_ready sent, (c.requires.ready, sent_fits sent))),
    )

pub returns-in_err-value-in-Put-clause-fault : goal.returns-in_err-value-in-Put-clause-fault
returns-in_err-value-in-Put-clause-fault g c =
    let U = types c.args.receiver.now.wanted.now in
    let u = c.args.receiver.now.wanted_id in
    let T = types c.args.stream.now in
    let e = c.in_err-value-in-Put.field-0.0 in
    fault_at (λ e. ReceivesNone U u T c.args.item.now e) c.from_residual.result e c.from_residual.ensures.1
    (subst (λ i. ReceivesNone U u T i e) (sym c.in-Put.is)
    (clash_given T U c.in-Put.id u c.in-Put.value e c.in_err-value-in-Put.ensures.fault))

pub returns-in-Define-clause-made : goal.returns-in-Define-clause-made
returns-in-Define-clause-made g c =
    rw c.in-Define.is (rw c.requires.empty (definition no_item))

pub returns-in_ok-pushed-in-Put-clause-made : goal.returns-in_ok-pushed-in-Put-clause-made
returns-in_ok-pushed-in-Put-clause-made g c =
    let x = c.in_ok-value-in-Put in
    let receiver = c.args.receiver.now in
    subst (λ i. is_received_of_item receiver.form (types receiver.wanted.now) receiver.wanted_id
    (types c.args.stream.now) i c.push-pushed.new.text.items) (sym c.in-Put.is)
    (value_received c.in-Put.id (view c.in-Put.value) (view x.value) x.ensures.matched x.ensures.received
    c.in_ok-pushed-in-Put.ensures)
