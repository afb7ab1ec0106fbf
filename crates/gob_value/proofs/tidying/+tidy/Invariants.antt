use Rattle.std.proofs.Common.{◌≡◌, ◌+◌, ◌*◌, length}
use Rattle.std.specs.Vec.Iter.{into_iter_items, into_iter_len}
use Rattle.gob_value.specs.Tree.{depth, trees_depth, pairs_depth, fields_depth}
use Rattle.gob_value.specs.View.{view, views, pair_views, field_views}
use Rattle.gob_value.proofs.TidySteps.{EachGoes, PairsGo, FieldsGo}
use Rattle.gob_value.proofs.tidying.+tidy.Given as goal

abbrev pub decreases-tidy_type : goal.decreases-tidy_type
decreases-tidy_type g l = 3 * depth (view l.value) + 1

abbrev pub decreases-tidy_kind : goal.decreases-tidy_kind
decreases-tidy_kind g l = 3 * depth (view l.value)

abbrev pub decreases-tidy_each : goal.decreases-tidy_each
decreases-tidy_each g l = 3 * trees_depth (views l.parts.items) + 2

abbrev pub decreases-tidy_pairs : goal.decreases-tidy_pairs
decreases-tidy_pairs g l = 3 * pairs_depth (pair_views l.parts.items) + 2

abbrev pub decreases-tidy_fields : goal.decreases-tidy_fields
decreases-tidy_fields g l = 3 * fields_depth (field_views l.parts.items) + 2

abbrev pub invariant-tidy_each-loop-part : goal.invariant-tidy_each-loop-part
invariant-tidy_each-loop-part g l =
    EachGoes (g.S.Shapes.table l.shapes) l.elem (into_iter_items l.initial.part-iterator)
    (into_iter_items l.part-iterator) l.tidied.items
    × (into_iter_len l.part-iterator ≡ length (into_iter_items l.part-iterator))

abbrev pub invariant-tidy_pairs-loop-k : goal.invariant-tidy_pairs-loop-k
invariant-tidy_pairs-loop-k g l =
    PairsGo (g.S.Shapes.table l.shapes) l.key l.elem (into_iter_items l.initial.k-iterator)
    (into_iter_items l.k-iterator) l.tidied.items
    × (into_iter_len l.k-iterator ≡ length (into_iter_items l.k-iterator))

abbrev pub invariant-tidy_fields-loop-number : goal.invariant-tidy_fields-loop-number
invariant-tidy_fields-loop-number g l =
    FieldsGo (g.S.Shapes.table l.shapes) l.types (into_iter_items l.initial.number-iterator)
    (into_iter_items l.number-iterator) l.tidied.items
    × (into_iter_len l.number-iterator ≡ length (into_iter_items l.number-iterator))
