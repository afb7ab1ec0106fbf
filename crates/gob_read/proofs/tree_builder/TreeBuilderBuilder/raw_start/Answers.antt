use Rattle.std.proofs.Common.{arith, ap, ◌∙◌}
use Rattle.gob_read.specs.Machine.Stack.{work_of}
use Rattle.gob_read.specs.Machine.Built.{begun, raw}
use Rattle.gob_read.specs.Event.{raw_start}
use Rattle.gob_read.proofs.Events.BuiltLaws.{told_more, one_counted}
use Rattle.gob_read.proofs.tree_builder.TreeBuilderBuilder.raw_start.Goals as goal

pub returns : goal.returns
returns c = let s = c.args.self.now in record {
  each = λ us a. told_more (work_of s.work) (work_of c.begin.new.self)
      s.held _ us (raw_start c.args.kind) (c.in_ok-begin.ensures
      ∙ ap (λ bytes. begun (work_of s.work) (raw c.args.kind bytes)) c.new.ensures.items) (omega arith) a;
}

pub overflow_add-self : goal.overflow_add-self
overflow_add-self c =
    let r = c.requires in let h = one_counted r.told (raw_start c.args.kind) r.so_far r.room in omega arith
