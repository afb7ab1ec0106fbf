use Rattle.std.proofs.Common.{arith}
use Rattle.gob_read.specs.Machine.Stack.{work_of}
use Rattle.gob_read.specs.Event.{raw_more}
use Rattle.gob_read.proofs.Events.BuiltLaws.{told_more, one_counted}
use Rattle.gob_read.proofs.tree_builder.TreeBuilderBuilder.raw_more.Goals as goal

pub returns : goal.returns
returns c = let s = c.args.self.now in record {
  each = λ us a. told_more (work_of s.work) (work_of c.add_bytes.new.self)
      s.held _ us (raw_more c.args.bytes.now) c.in_ok-add_bytes.ensures (omega arith) a;
}

pub overflow_add-self : goal.overflow_add-self
overflow_add-self c =
    let r = c.requires in let h = one_counted r.told (raw_more c.args.bytes.now) r.so_far r.room in omega arith
