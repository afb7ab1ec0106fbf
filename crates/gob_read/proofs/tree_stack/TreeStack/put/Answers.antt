use Rattle.std.proofs.Common.{arith, rules, ◌<◌, ◌-◌, vec_len}
use Rattle.std.specs.Option.{option_map}
use Rattle.gob_value.specs.View.{view}
use Rattle.gob_read.proofs.Events.StackLaws.{put_first, put_last}
use Rattle.gob_read.proofs.tree_stack.TreeStack.put.Goals as goal

pub returns-in_ok-add-in-Some : goal.returns-in_ok-add-in-Some
returns-in_ok-add-in-Some c =
    let s = c.args.self.now in
    let some : 0 < vec_len s.parts = search rules in
    put_last s.parts.items (option_map view s.whole) (view c.args.value) (vec_len s.parts - 1) c.in-Some.part.now
    c.add.new.self (omega (arith, s.parts.ok.0)) c.in-Some.ensures.value c.in_ok-add-in-Some.ensures

pub returns-in-None : goal.returns-in-None
returns-in-None c =
    let s = c.args.self.now in
    let none = c.in-None.ensures.item.3 in
    put_first s.parts.items (option_map view s.whole) (view c.args.value) (omega (arith, none))
