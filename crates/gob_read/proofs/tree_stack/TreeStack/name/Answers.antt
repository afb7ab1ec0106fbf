use Rattle.std.proofs.Common.{arith, rules, ◌<◌, ap, ◌-◌, vec_len}
use Rattle.std.specs.Option.{option_map}
use Rattle.gob_value.specs.View.{view}
use Rattle.gob_read.specs.Machine.Built.{with_number}
use Rattle.gob_read.proofs.Events.StackLaws.{work, none_changed, stack_changed}
use Rattle.gob_read.proofs.tree_stack.TreeStack.name.Goals as goal

pub returns-in-Some : goal.returns-in-Some
returns-in-Some c =
    let s = c.args.self.now in
    let some : 0 < vec_len s.parts = search rules in
    ap (λ ps. work ps (option_map view s.whole))
    (stack_changed (λ p. with_number p c.args.number) s.parts.items (vec_len s.parts - 1) c.in-Some.part.now
    c.name.new.self (omega (arith, s.parts.ok.0)) c.in-Some.ensures.value c.name.ensures)

pub returns-in_default : goal.returns-in_default
returns-in_default c =
    let s = c.args.self.now in
    let none = c.in_default.ensures.item.3 in
    ap (λ ps. work ps (option_map view s.whole))
    (none_changed (λ p. with_number p c.args.number) s.parts.items (omega (arith, none)))
