use Rattle.std.proofs.Common.{rules, ◌≡◌, None, ap, subst, sym}
use Rattle.gob_num.specs.Spelled.{IsSpelled}
use Rattle.gob_types.specs.Defined.{Defined, types}
use Rattle.gob_types.specs.Table.{Table}
use Rattle.gob_stream.specs.Calls.ReaderOf.{types_behind}
use Rattle.gob_stream.specs.declared.fault.Fault.TheVariants as reading
use Rattle.gob_go.specs.GoStepping.{go_stepping}
use Rattle.gob_go_writer.specs.Item.{IsItemOf}
use Rattle.gob_tool.proofs.Profile.FormLaws.{item_of}
use Rattle.gob_tool.proofs.TextLaws.{item_given}
use Rattle.gob_split.specs.Machine.Items.{IsMadeOf}
use Rattle.gob_split.proofs.NextLaws.{memory_stops, step_none, step_taken, takes_at}
use Rattle.gob_split.proofs.next_text.step_on.Goals as goal

pub make_text-requires : goal.make_text-requires
make_text-requires c =
    let so = c.requires.so_far in
    let st = c.in_ok-item.ensures.stepped so.read so.now so.given so.has in
    subst (λ (T : Table). IsSpelled (IsItemOf T c.in-Some.item)) (sym (ap (λ x. types x) c.table.ensures))
    (item_of (item_given go_stepping c.in-Some.item st c.in-Some.is c.in_ok-item.ensures.between))

pub returns-in_err-item-clause-taken : goal.returns-in_err-item-clause-taken
returns-in_err-item-clause-taken c = λ read now given h.
    takes_at c.step.new.self c.args.text.now c.in_err-item.field-0.0 c.from_residual.result c.from_residual.ensures.1
    (record { table = types_behind go_stepping h; stops = c.in_err-item.ensures.stepped read now given h })

pub returns-in_default-clause-taken : goal.returns-in_default-clause-taken
returns-in_default-clause-taken c = λ read now given h.
    let none : c.in_ok-item.field-0.item ≡ None = search rules in
    step_none (c.in_ok-item.ensures.stepped read now given h) none c.in_ok-item.ensures.used

pub returns-in_err-make_text-clause-taken : goal.returns-in_err-make_text-clause-taken
returns-in_err-make_text-clause-taken c = λ read now given h.
    takes_at c.step.new.self c.make_text.new.text reading.Memory c.from_residual-in_err-make_text.result
    c.from_residual-in_err-make_text.ensures.1 (memory_stops c.requires.so_far.stands.gives h)

pub returns-clause-taken : goal.returns-clause-taken
returns-clause-taken c = λ read now given h.
    step_taken (c.in_ok-item.ensures.stepped read now given h) c.in-Some.is c.in_ok-item.ensures.used
    c.in_ok-item.ensures.between
    (subst (λ (d : Defined). IsMadeOf (types d) c.in-Some.item c.make_text.new.text) c.table.ensures
    c.in_ok-make_text.ensures)
