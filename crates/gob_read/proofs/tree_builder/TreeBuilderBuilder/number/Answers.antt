use Rattle.std.proofs.Common.{arith, ap, ◌∙◌}
use Rattle.gob_read.specs.Machine.Stack.{work_of}
use Rattle.gob_read.specs.Machine.Built.{put}
use Rattle.gob_read.specs.Event.{number}
use Rattle.gob_read.proofs.Events.BuiltLaws.{told_more, one_counted}
use Rattle.gob_read.proofs.tree_builder.TreeBuilderBuilder.number.Goals as goal

pub returns : goal.returns
returns c = let s = c.args.self.now in record {
  each = λ us a. told_more (work_of s.work) (work_of c.put.new.self)
      s.held _ us (number c.args.kind c.args.first c.args.second) (c.in_ok-put.ensures
      ∙ ap (put (work_of s.work)) c.basic_value.ensures) (omega arith) a;
}

pub overflow_add-self : goal.overflow_add-self
overflow_add-self c =
    let r = c.requires in
    let h = one_counted r.told (number c.args.kind c.args.first c.args.second) r.so_far r.room in omega arith
