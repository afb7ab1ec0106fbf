use Rattle.std.proofs.Common.{◌≤◌, ◌↔◌, drop}
use Rattle.gob_value.specs.View.{views, pair_views, field_views}
use Rattle.gob_value.specs.Tree.{trees_depth, pairs_depth, fields_depth}
use Rattle.gob_value.proofs.depth.+within.Given as goal

abbrev pub invariant-are_within-loop-part : goal.invariant-are_within-loop-part
invariant-are_within-loop-part l = (trees_depth (views (drop l.part-index l.parts)) ≤ l.limit)
    ↔ (trees_depth (views l.parts) ≤ l.limit)

abbrev pub invariant-pairs_within-loop-key : goal.invariant-pairs_within-loop-key
invariant-pairs_within-loop-key l = (pairs_depth (pair_views (drop l.key-index l.parts)) ≤ l.limit)
    ↔ (pairs_depth (pair_views l.parts) ≤ l.limit)

abbrev pub invariant-fields_within-loop-part : goal.invariant-fields_within-loop-part
invariant-fields_within-loop-part l = (fields_depth (field_views (drop l.part-index l.parts)) ≤ l.limit)
    ↔ (fields_depth (field_views l.parts) ≤ l.limit)
