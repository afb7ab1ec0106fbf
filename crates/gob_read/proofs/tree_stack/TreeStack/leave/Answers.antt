use Rattle.std.proofs.Common.{ap, ◌∙◌}
use Rattle.std.specs.Option.{option_map}
use Rattle.gob_value.specs.View.{view}
use Rattle.gob_read.specs.Machine.Built.{put}
use Rattle.gob_read.specs.Machine.Stack.{work_of}
use Rattle.gob_read.proofs.Events.StackLaws.{stack_left}
use Rattle.gob_read.proofs.tree_stack.TreeStack.leave.Goals as goal

pub returns-in_ok-put : goal.returns-in_ok-put
returns-in_ok-put c =
    let s = c.args.self.now in
    let left = record s { parts = c.pop.new.self } in
    c.in_ok-put.ensures ∙ ap (put (work_of left)) c.close.ensures
    ∙ stack_left s.parts.items left.parts.items c.in-Some.part (option_map view s.whole) c.in-Some.ensures.items
