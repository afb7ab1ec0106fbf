-- The items before this one went out whole, and no write failed.
use Rattle.std.proofs.Common.{◌≡◌}
use Rattle.gob_stream.specs.Bounds.{within_trees}
use Rattle.gob_stream.specs.Item.{item_views}
use Rattle.gob_stream.proofs.Written.WriteStreamSteps.{WroteSome}
use Rattle.gob_stream.proofs.write_items.write_stream.Given as goal

abbrev pub invariant-loop-i : goal.invariant-loop-i
invariant-loop-i g l = record {
  wrote : WroteSome (within_trees l.fn.limits) (item_views l.items) l.i l.writer (g.W.Write.contents l.fn.output.writer)
      (g.W.Write.contents l.output.writer);
  sound : l.output.failures ≡ l.fn.output.failures;
}
