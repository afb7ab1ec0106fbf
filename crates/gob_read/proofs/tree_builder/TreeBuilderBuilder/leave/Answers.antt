use Rattle.std.proofs.Common.{arith}
use Rattle.gob_read.specs.Machine.Stack.{work_of}
use Rattle.gob_read.specs.Event.{leave}
use Rattle.gob_read.proofs.Events.BuiltLaws.{told_more}
use Rattle.gob_read.proofs.tree_builder.TreeBuilderBuilder.leave.Goals as goal

pub returns : goal.returns
returns c = let s = c.args.self.now in record {
  each = λ us a. told_more (work_of s.work) (work_of c.leave.new.self)
      s.held s.held us leave c.in_ok-leave.ensures (omega arith) a;
}
