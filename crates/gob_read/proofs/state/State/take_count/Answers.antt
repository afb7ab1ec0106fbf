use Rattle.std.proofs.Common.{refl, ap}
use Rattle.gob_read.specs.declared.next.Next.TheVariants.{Number}
use Rattle.gob_read.proofs.Machine.Parts.{if_ok, begins_ended, begins_can_end}
use Rattle.gob_read.proofs.Machine.FirstSteps.{can_enter, can_end_group, count_ended, count_placed}
use Rattle.gob_read.proofs.state.State.take_count.Goals as goal

pub enter-requires : goal.enter-requires
enter-requires g c = can_enter c.requires

pub leave-requires : goal.leave-requires
leave-requires g c = can_end_group c.requires c.in_ok-enter.ensures

pub after_part-requires : goal.after_part-requires
after_part-requires g c = begins_can_end (count_ended refl c.in_ok-enter.ensures c.in_ok-leave.ensures c.if-n-eq0.true)
    c.requires

pub returns-then-n-eq0 : goal.returns-then-n-eq0
returns-then-n-eq0 g c =
    if_ok c.after_part.result (λ moved e. begins_ended (count_ended refl c.in_ok-enter.ensures c.in_ok-leave.ensures
    c.if-n-eq0.true) e) c.after_part.ensures

pub returns : goal.returns
returns g c = record {
  each = count_placed c.in_ok-open.ensures (ap Number c.item.ensures) c.in_ok-enter.ensures
      c.if-n-eq0.false;
}
