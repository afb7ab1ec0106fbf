use Rattle.std.proofs.Common.{arith}
use Rattle.gob_read.specs.Machine.Stack.{work_of}
use Rattle.gob_read.specs.Event.{field}
use Rattle.gob_read.proofs.Events.BuiltLaws.{told_more}
use Rattle.gob_read.proofs.tree_builder.TreeBuilderBuilder.field.Goals as goal

pub returns : goal.returns
returns c = let s = c.args.self.now in record {
  each = λ us a. told_more (work_of s.work) (work_of c.name.new.self)
      s.held s.held us (field c.args.number) c.name.ensures (omega arith) a;
}
