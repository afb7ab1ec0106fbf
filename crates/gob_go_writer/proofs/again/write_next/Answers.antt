use Rattle.std.proofs.Common.{Option, subst, sym, true}
use Rattle.std.specs.Prelude.{IfSome}
use Rattle.gob_types.specs.Defined.{Defined, types}
use Rattle.gob_stream.proofs.FaultSteps.{passed}
use Rattle.gob_go.specs.Calls.Session.{IsBetweenItems}
use Rattle.gob_go.specs.declared.item.GoItem.{GoItem}
use Rattle.gob_go.specs.Machine.Stages.{AdvancesOver}
use Rattle.gob_go_writer.specs.Item.{IsItemOf}
use Rattle.gob_go_writer.proofs.AgainSteps.{none_written, item_written, step_stops}
use Rattle.gob_go_writer.proofs.again.write_next.Goals as goal

pub write_item-requires : goal.write_item-requires
write_item-requires c =
    let s = c.step.new.self in
    let h = c.requires.has in
    let w = item_written h c.in_ok-used.ensures.limits
    (subst (λ (o : Option GoItem). IfSome o (λ _. IsBetweenItems s)) c.in-Some.is c.in_ok-used.ensures.between)
    (subst (λ (o : Option GoItem). AdvancesOver true s h.items c.requires.bytes c.args.piece.now
    c.in_ok-used.field-0.used o)
    c.in-Some.is (c.in_ok-used.ensures.advances h.items c.requires.bytes h.after)) in
    record {
      bytes = w.spelling;
      spelled = subst (λ (d : Defined). IsItemOf (types d) c.in-Some.item w.spelling) (sym c.table.ensures) w.is;
    }

pub returns-in-None-clause-written : goal.returns-in-None-clause-written
returns-in-None-clause-written c = λ bytes h.
    let s = c.step.new.self in
    none_written h c.in_ok-used.ensures.limits
    (subst (λ (o : Option GoItem). AdvancesOver true s h.items bytes c.args.piece.now c.in_ok-used.field-0.used o)
    c.in-None.is (c.in_ok-used.ensures.advances h.items bytes h.after))

pub returns-in-Ok-clause-written : goal.returns-in-Ok-clause-written
returns-in-Ok-clause-written c = λ bytes h.
    let s = c.step.new.self in
    let w = item_written h c.in_ok-used.ensures.limits
    (subst (λ (o : Option GoItem). IfSome o (λ _. IsBetweenItems s)) c.in-Some.is c.in_ok-used.ensures.between)
    (subst (λ (o : Option GoItem). AdvancesOver true s h.items bytes c.args.piece.now c.in_ok-used.field-0.used o)
    c.in-Some.is (c.in_ok-used.ensures.advances h.items bytes h.after)) in
    w.written _ (c.in-Ok.ensures.ok w.spelling
    (subst (λ (d : Defined). IsItemOf (types d) c.in-Some.item w.spelling) (sym c.table.ensures) w.is))

pub returns-in_err-used-clause-stops : goal.returns-in_err-used-clause-stops
returns-in_err-used-clause-stops c = passed c.from_residual.result _ c.from_residual.ensures.1
    (λ bytes h. step_stops c.args.session.now c.step.new.self h.items bytes _ c.in_err-used.field-0.0
    (c.in_err-used.ensures.advances h.items bytes h.after))
