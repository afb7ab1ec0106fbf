use Rattle.std.proofs.Common.{refl, sym, ap}
use Rattle.gob_read.specs.declared.next.Next.TheVariants.{Number}
use Rattle.gob_read.proofs.Machine.BasicPartSteps.{frame_some}
use Rattle.gob_read.proofs.Machine.Parts.{ended_none, ended_on, ended_over, can_leave, over_can_end}
use Rattle.gob_read.proofs.state.State.after_part.Goals as goal

pub returns-in_default : goal.returns-in_default
returns-in_default g c =
    record { each = λ T t z e. ended_none (sym c.in_default.ensures) (c.opens.invariant.each T t z e) }

pub returns-in-Some-next : goal.returns-in-Some-next
returns-in-Some-next g c = record {
  each = λ T t z e. ended_on (sym c.in-Some.ensures) c.in-Some-next.ensures
      c.replace.ensures (ap Number c.item.ensures) refl (c.opens.invariant.each T t z e);
}

pub replace-requires : goal.replace-requires
replace-requires g c = frame_some _ (sym c.in-Some.ensures)

pub leave-requires : goal.leave-requires
leave-requires g c = can_leave (sym c.in-Some.ensures) c.in_default-next.ensures c.opens.invariant.can

pub opens-preserved : goal.opens-preserved
opens-preserved g c = record {
  can = over_can_end (sym c.in-Some.ensures) c.in_default-next.ensures c.close.ensures c.in_ok-leave.ensures
      c.opens.invariant.can;
  each = λ T t z e. ended_over (sym c.in-Some.ensures) c.in_default-next.ensures c.close.ensures c.in_ok-leave.ensures
      (c.opens.invariant.each T t z e);
}
