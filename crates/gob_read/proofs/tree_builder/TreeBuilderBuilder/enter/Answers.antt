use Rattle.std.proofs.Common.{arith, ap, ◌∙◌}
use Rattle.gob_read.specs.Machine.Stack.{work_of}
use Rattle.gob_read.specs.Machine.Built.{begun}
use Rattle.gob_read.specs.Event.{enter}
use Rattle.gob_read.proofs.Events.BuiltLaws.{told_more, one_counted}
use Rattle.gob_read.proofs.tree_builder.TreeBuilderBuilder.enter.Goals as goal

pub returns : goal.returns
returns c = let s = c.args.self.now in record {
  each = λ us a. told_more (work_of s.work) (work_of c.begin.new.self)
      s.held _ us (enter c.args.kind) (c.in_ok-begin.ensures ∙ ap (begun (work_of s.work)) c.group.ensures)
      (omega arith)
      a;
}

pub overflow_add-self : goal.overflow_add-self
overflow_add-self c =
    let r = c.requires in let h = one_counted r.told (enter c.args.kind) r.so_far r.room in omega arith
