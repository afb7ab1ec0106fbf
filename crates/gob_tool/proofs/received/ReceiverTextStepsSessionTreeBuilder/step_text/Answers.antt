-- What is received of what a step gave, or why nothing is.
use Rattle.std.proofs.Common.{arith, ◌≡◌, ◌∷◌, ◌++◌, [], IfSome, List, Option, Some, subst, sym, ℕ}
use Rattle.gob_types.specs.Defined.{Defined, types}
use Rattle.gob_types.specs.Table.{Table}
use Rattle.gob_types.specs.declared.id.TypeId.{TypeId}
use Rattle.gob_match.specs.declared.fault.MatchFault.{MatchFault}
use Rattle.gob_match.specs.declared.fault.MatchFault.TheVariants as matching
use Rattle.gob_read.specs.Calls.Builders.{tree_building}
use Rattle.gob_value.specs.declared.value.Value.{Value}
use Rattle.gob_stream.specs.Calls.ReaderOf.{HasReadBy, session_of, StepsOnBy, types_behind, waits_in}
use Rattle.gob_stream.specs.Item.{item_view, StreamItem}
use Rattle.gob_stream.specs.Stepping.{GivesAllBy, StandsBy, Stepping}
use Rattle.gob_stream.specs.Machine.SessionState.{SessionState}
use Rattle.gob_read.specs.declared.tree_builder.TreeBuilder.{TreeBuilder}
use Rattle.gob_stream.specs.StrictStepping.{strict_stepping}
use Rattle.gob_stream.specs.Calls.Session.{IsBetweenItems, limits_of, types_of}
use Rattle.gob_stream.specs.declared.fault.Fault.TheVariants as reading
use Rattle.gob_stream.specs.declared.item.Item as declared
use Rattle.gob_stream.specs.declared.session.Advance.{Advance}
use Rattle.gob_tool.specs.Fault.{matching_fault, reading_fault}
use Rattle.gob_tool.specs.Machine.Lines.{Trees}
use Rattle.gob_tool.specs.Machine.Receiver.{IsClash, is_received_of_item, IsReceived, ReceivesNone, StaysKnown}
use Rattle.gob_tool.specs.Machine.Taken.{AreSent}
use Rattle.gob_tool.specs.Machine.Texts.{stops_reading, StopsNext, TextGiven}
use Rattle.gob_tool.proofs.ReaderRuns.{read_alone}
use Rattle.gob_tool.proofs.TakeRuns.{step_known, step_sent}
use Rattle.gob_tool.proofs.TextLaws.{item_stops, makes_at, no_memory, step_made}
use Rattle.gob_tool.proofs.received.ReceiverTextStepsSessionTreeBuilder.step_text.Goals as goal

abbrev d : Stepping (SessionState TreeBuilder Value) (declared.Item Value) StreamItem
d = strict_stepping tree_building

none_received : {r r' : Trees} {U : Table} {u : TypeId} {read now : Option (List ℕ)} {given : List StreamItem}
    {step : Advance (declared.Item Value)} {item : declared.Item Value} → GivesAllBy d (session_of r)
    → (h : HasReadBy d r read now given) → StepsOnBy d r r' read now given step → step.item ≡ Some item
    → StandsBy d (session_of r') → IfSome step.item (λ _. IsBetweenItems (session_of r'))
    → limits_of (session_of r') ≡ limits_of (session_of r) → (e : MatchFault)
    → ReceivesNone U u (types_of (session_of r')) item e
    → StopsNext d (IsClash U u) r r' read now given (matching_fault e)
none_received {item = item} gives h st is stands between same (matching.Clash path reason) c =
    item_stops d item st is stands between same c
none_received gives h st is stands between same matching.Memory c =
    stops_reading (types_behind d h) reading.Memory (no_memory d gives h)

pub returns-in_err-item-clause-made : goal.returns-in_err-item-clause-made
returns-in_err-item-clause-made g c = λ read now given h.
    let U = types c.args.self.now.wanted.now in
    let u = c.args.self.now.wanted_id in
    let e = c.in_err-item.field-0.0 in
    makes_at d (IsReceived c.args.self.now.form U u) (IsClash U u) c.args.reader.now c.step.new.self read now given
    c.args.text.now.items
    c.from_residual.result (reading_fault e) c.from_residual.ensures.1
    (stops_reading (types_behind d h) e (c.in_err-item.ensures.stepped read now given h))

pub push_received-made-requires : goal.push_received-made-requires
push_received-made-requires g c =
    let so = c.requires.so_far in
    let U = types c.args.self.now.wanted.now in
    let u = c.args.self.now.wanted_id in
    let e = c.in_ok-item.ensures in
    let st = e.stepped (Some (so.has.taken ++ waits_in c.args.reader.now)) (Some []) so.given
    (read_alone tree_building so.has.gave so.has.room) in (
      omega arith,
      (
        subst (λ (D : Defined). AreSent (types D) (item_view c.in-Some.item ∷ [])) (sym c.table.ensures)
            (step_sent so e.stands e.limits st c.in-Some.is),
        (
          subst (λ (D : Defined). StaysKnown (types D) U u c.args.kept.now (Some c.in-Some.item)) (sym c.table.ensures)
              (step_known so e.stands e.limits st c.in-Some.is U u c.args.kept.now c.requires.fits.known),
          (c.requires.fits.ready, (c.requires.fits.number, c.requires.empty)),
        ),
      ),
    )

pub returns-in_default-clause-made : goal.returns-in_default-clause-made
returns-in_default-clause-made g c = λ read now given h.
    step_made d c.in_ok-item.ensures.stands c.in_ok-item.ensures.used c.in_ok-item.ensures.limits
    (c.in_ok-item.ensures.stepped read now given h) c.in_ok-item.ensures.between
    (subst (λ (o : Option (declared.Item Value)). TextGiven (is_received_of_item c.args.self.now.form
    (types c.args.self.now.wanted.now) c.args.self.now.wanted_id) (types_of (session_of c.step.new.self)) o
    c.args.text.now.items) (sym c.in_default.is)
    c.requires.empty)

pub returns-clause-made : goal.returns-clause-made
returns-clause-made g c = λ read now given h.
    let U = types c.args.self.now.wanted.now in
    let u = c.args.self.now.wanted_id in
    let text = c.push_received-made.new.text.items in
    step_made d c.in_ok-item.ensures.stands c.in_ok-item.ensures.used c.in_ok-item.ensures.limits
    (c.in_ok-item.ensures.stepped read now given h) c.in_ok-item.ensures.between
    (subst (λ (o : Option (declared.Item Value)). TextGiven (is_received_of_item c.args.self.now.form U u)
    (types_of (session_of c.step.new.self)) o text) (sym c.in-Some.is)
    (subst (λ D. is_received_of_item c.args.self.now.form U u (types D) c.in-Some.item text) c.table.ensures
    c.in_ok-made.ensures.made))

pub returns-in_default-clause-fits : goal.returns-in_default-clause-fits
returns-in_default-clause-fits g c =
    let so = c.requires.so_far in
    let e = c.in_ok-item.ensures in
    let st = e.stepped (Some (so.has.taken ++ waits_in c.args.reader.now)) (Some []) so.given
    (read_alone tree_building so.has.gave so.has.room) in
    record {
      ready = c.requires.fits.ready;
      number = c.requires.fits.number;
      known = step_known so e.stands e.limits st c.in_default.is (types c.args.self.now.wanted.now)
          c.args.self.now.wanted_id c.args.kept.now c.requires.fits.known;
    }

pub returns-in_err-made-clause-made : goal.returns-in_err-made-clause-made
returns-in_err-made-clause-made g c = λ read now given h.
    let U = types c.args.self.now.wanted.now in
    let u = c.args.self.now.wanted_id in
    let e = c.in_err-made.field-0.0 in
    let so = c.requires.so_far in
    makes_at d (IsReceived c.args.self.now.form U u) (IsClash U u) c.args.reader.now c.step.new.self read now given
    c.push_received-made.new.text.items c.from_residual-in_err-made.result (matching_fault e)
    c.from_residual-in_err-made.ensures.1
    (none_received so.stands.gives h (c.in_ok-item.ensures.stepped read now given h) c.in-Some.is
    c.in_ok-item.ensures.stands c.in_ok-item.ensures.between c.in_ok-item.ensures.limits e
    (subst (λ D. ReceivesNone U u (types D) c.in-Some.item e) c.table.ensures c.in_err-made.ensures.fault))
