use Rattle.std.proofs.Common.{ap, ◌∙◌}
use Rattle.std.specs.Option.{option_map}
use Rattle.gob_value.specs.View.{view}
use Rattle.gob_read.specs.Machine.Stack.{stack_view}
use Rattle.gob_read.proofs.Events.StackLaws.{work, stack_pushed}
use Rattle.gob_read.proofs.tree_stack.TreeStack.begin.Goals as goal

pub returns : goal.returns
returns c =
    let s = c.args.self.now in
    ap (λ ps. work ps (option_map view s.whole))
    (ap stack_view c.in_ok-push.ensures.items ∙ stack_pushed s.parts.items c.args.part)
