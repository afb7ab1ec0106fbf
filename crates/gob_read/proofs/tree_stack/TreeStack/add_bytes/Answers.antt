use Rattle.std.proofs.Common.{arith, rules, ◌<◌, ap, ◌-◌, vec_len}
use Rattle.std.specs.Option.{option_map}
use Rattle.gob_value.specs.View.{view}
use Rattle.gob_read.specs.Machine.Built.{with_bytes}
use Rattle.gob_read.proofs.Events.StackLaws.{work, stack_changed}
use Rattle.gob_read.proofs.tree_stack.TreeStack.add_bytes.Goals as goal

pub returns-in_ok-add_bytes : goal.returns-in_ok-add_bytes
returns-in_ok-add_bytes c =
    let s = c.args.self.now in
    let some : 0 < vec_len s.parts = search rules in
    ap (λ ps. work ps (option_map view s.whole))
    (stack_changed (λ p. with_bytes p c.args.bytes.now) s.parts.items (vec_len s.parts - 1) c.in-Some.part.now
    c.add_bytes.new.self (omega (arith, s.parts.ok.0)) c.in-Some.ensures.value c.in_ok-add_bytes.ensures)
