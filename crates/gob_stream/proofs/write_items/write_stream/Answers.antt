use Rattle.std.proofs.Common.{[], refl, ap, ◌∙◌, arith}
use Rattle.std.proofs.KnownBytes.{Appends-nil}
use Rattle.gob_stream.specs.Stream.{no_more}
use Rattle.gob_stream.specs.Bounds.{greatest_depth, within_trees}
use Rattle.gob_stream.specs.Item.{item_view, item_views}
use Rattle.gob_types.specs.Base.{base_table}
use Rattle.gob_stream.proofs.Reader.HasReadLaws.{limits_stay}
use Rattle.gob_stream.proofs.Written.WriteStreamSteps.{wrote_none, wrote_more, wrote_all, stopped, item_at}
use Rattle.gob_stream.proofs.write_items.write_stream.Goals as goal

pub returns-in_default-clause-writes : goal.returns-in_default-clause-writes
returns-in_default-clause-writes g c = record {
  within = omega arith;
  bytes = [];
  table = base_table;
  before = no_more;
  out = Appends-nil _;
}

pub loop-i-init : goal.loop-i-init
loop-i-init g c = record {
  wrote = wrote_none (within_trees c.args.limits) (item_views c.args.items.now) c.in-Ok.writer
      _ (rw c.up_to-limits.ensures at c.in-Ok.ensures);
  sound = refl;
}

pub returns-in-Err-clause-writes : goal.returns-in-Err-clause-writes
returns-in-Err-clause-writes g c =
    stopped (within_trees c.args.limits) (within_trees c.loop-i.writer.limits) (item_views c.args.items.now) c.loop-i.i
    c.loop-i.writer c.write_item.new.self _ _ _ (item_view c.index-items-i.result) c.in-Err.fault
    (ap (λ L. within_trees L) c.loop-i.invariant.wrote.limits ∙ limits_stay greatest_depth (within_trees c.args.limits)
    (omega arith)) c.loop-i.invariant.wrote (item_at c.args.items.now c.loop-i.i c.index-items-i.result
    c.index-items-i.is c.loop-i-test.true) c.in-Err.ensures.writes c.in-Err.ensures.effects.leaves

pub loop-i-preserved : goal.loop-i-preserved
loop-i-preserved g c = record {
  wrote = wrote_more (within_trees c.args.limits) (within_trees c.loop-i.writer.limits) (item_views c.args.items.now)
      c.loop-i.i c.loop-i.writer c.write_item.new.self _ _ _ (item_view c.index-items-i.result)
      c.in_default-write_item.field-0
      c.loop-i.invariant.wrote (item_at c.args.items.now c.loop-i.i c.index-items-i.result c.index-items-i.is
      c.loop-i-test.true) c.in_default-write_item.ensures.writes;
  sound = c.in_default-write_item.ensures.effects.counted ∙ c.loop-i.invariant.sound;
}

pub returns-clause-writes : goal.returns-clause-writes
returns-clause-writes g c = wrote_all (within_trees c.args.limits) c.args.items.now c.loop-i.i c.loop-i.writer _ _ tt
    c.loop-i.invariant.wrote c.loop-i-test.false
