use Rattle.std.proofs.Common.{rules, ◌≡◌, ap, subst, sym, None, Option}
use Rattle.gob_types.specs.Defined.{types}
use Rattle.gob_types.specs.Table.{Table}
use Rattle.gob_stream.specs.Calls.ReaderOf.{session_of, types_behind}
use Rattle.gob_stream.specs.declared.fault.Fault.TheVariants as reading
use Rattle.gob_tool.specs.Fault.{reading_fault}
use Rattle.gob_tool.specs.Machine.Texts.{stops_reading, TextGiven}
use Rattle.gob_tool.specs.Texts.{IsGiven, IsStopBy, IsTextBy}
use Rattle.gob_tool.specs.declared.fault.ToolFault.TheVariants as fault
use Rattle.gob_tool.proofs.TextLaws.{item_given, makes_at, no_memory, step_made}
use Rattle.gob_tool.proofs.text_steps.EachAloneTextSteps.step_text.Goals as goal

pub returns-in_err-item-clause-made : goal.returns-in_err-item-clause-made
returns-in_err-item-clause-made g c = λ read now given h.
    let d = g.S.Steps.stepping in
    let texts = c.args.self.now.texts.now in
    let Is = IsTextBy d (g.M.ItemTexts.of_item texts) (g.M.ItemTexts.of_value texts) in
    let e = c.in_err-item.field-0.0 in
    makes_at d Is (IsStopBy d (λ T given f. ⊥)) c.args.reader.now c.step.new.self read now given c.args.text.now.items
    c.from_residual.result (reading_fault e) c.from_residual.ensures.1
    (stops_reading (types_behind d h) e (c.in_err-item.ensures.stepped read now given h))

pub push_item-requires-clause-of_stream : goal.push_item-requires-clause-of_stream
push_item-requires-clause-of_stream g c =
    let d = g.S.Steps.stepping in
    let so = c.requires.so_far in
    let st = c.in_ok-item.ensures.stepped so.read so.now so.given so.has in
    subst (λ (T : Table). IsGiven d T c.in-Some.item) (sym (ap (λ x. types x) c.table.ensures))
    (item_given d c.in-Some.item st c.in-Some.is c.in_ok-item.ensures.between)

pub returns-in_err-push_item-clause-made : goal.returns-in_err-push_item-clause-made
returns-in_err-push_item-clause-made g c = λ read now given h.
    let d = g.S.Steps.stepping in
    let texts = c.args.self.now.texts.now in
    let Is = IsTextBy d (g.M.ItemTexts.of_item texts) (g.M.ItemTexts.of_value texts) in
    makes_at d Is (IsStopBy d (λ T given f. ⊥)) c.args.reader.now c.step.new.self read now given
    c.push_item.new.text.items c.from_residual-in_err-push_item.result fault.Memory
    c.from_residual-in_err-push_item.ensures.1
    (stops_reading (types_behind d h) reading.Memory (no_memory d c.requires.so_far.stands.gives h))

pub returns-in_default-clause-made : goal.returns-in_default-clause-made
returns-in_default-clause-made g c = λ read now given h.
    let d = g.S.Steps.stepping in
    let none : c.in_ok-item.field-0.item ≡ None = search rules in
    step_made d c.in_ok-item.ensures.stands c.in_ok-item.ensures.used c.in_ok-item.ensures.limits
    (c.in_ok-item.ensures.stepped read now given h) c.in_ok-item.ensures.between
    (subst (λ (o : Option g.row.S-Item.Denot). TextGiven (g.M.ItemTexts.of_item c.args.self.now.texts.now)
    (types (d.table (session_of c.step.new.self))) o c.args.text.now.items) (sym none) c.requires.empty)

pub returns-clause-made : goal.returns-clause-made
returns-clause-made g c = λ read now given h.
    let d = g.S.Steps.stepping in
    let texts = c.args.self.now.texts.now in
    step_made d c.in_ok-item.ensures.stands c.in_ok-item.ensures.used c.in_ok-item.ensures.limits
    (c.in_ok-item.ensures.stepped read now given h) c.in_ok-item.ensures.between
    (subst (λ (o : Option g.row.S-Item.Denot). TextGiven (g.M.ItemTexts.of_item texts)
    (types (d.table (session_of c.step.new.self))) o c.push_item.new.text.items) (sym c.in-Some.is)
    (subst (λ x. g.M.ItemTexts.of_item texts (types x) c.in-Some.item c.push_item.new.text.items) c.table.ensures
    c.in_ok-push_item.ensures))
