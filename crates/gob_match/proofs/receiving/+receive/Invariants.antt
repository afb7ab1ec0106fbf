use Rattle.std.proofs.Common.{◌+◌, ◌*◌, drop}
use Rattle.gob_value.specs.Tree.{depth, trees_depth, pairs_depth, fields_depth}
use Rattle.gob_value.specs.View.{view, views, pair_views, field_views}
use Rattle.gob_match.specs.Machine.Receiving.{GivesEach, GivesPairs, GivesCommonFields}
use Rattle.gob_match.proofs.Loops.{Completes}
use Rattle.gob_match.proofs.receiving.+receive.Given as goal

abbrev pub decreases-receive_value : goal.decreases-receive_value
decreases-receive_value g l = 2 * depth (view l.value.now)

abbrev pub decreases-receive_each : goal.decreases-receive_each
decreases-receive_each g l = 2 * trees_depth (views l.parts.now) + 1

abbrev pub decreases-receive_pairs : goal.decreases-receive_pairs
decreases-receive_pairs g l = 2 * pairs_depth (pair_views l.parts.now) + 1

abbrev pub decreases-receive_fields : goal.decreases-receive_fields
decreases-receive_fields g l = 2 * fields_depth (field_views l.parts.now) + 1

abbrev pub invariant-receive_each-loop-part : goal.invariant-receive_each-loop-part
invariant-receive_each-loop-part g l =
    Completes (λ vs ws. GivesEach g.S.Shapes.table g.T.Shapes.table l.matched l.pair (views vs) (views ws)) l.parts
    (drop l.part-index l.parts) l.received.items

abbrev pub invariant-receive_pairs-loop-k : goal.invariant-receive_pairs-loop-k
invariant-receive_pairs-loop-k g l =
    Completes (λ ps qs. GivesPairs g.S.Shapes.table g.T.Shapes.table l.matched l.key l.elem (pair_views ps)
    (pair_views qs)) l.parts (drop l.k-index l.parts) l.received.items

abbrev pub invariant-receive_fields-loop-field : goal.invariant-receive_fields-loop-field
invariant-receive_fields-loop-field g l =
    Completes (λ cs gs. GivesCommonFields g.S.Shapes.table g.T.Shapes.table l.matched cs (field_views l.parts)
    (field_views gs)) l.common (drop l.field-index l.common) l.received.items
