use Rattle.std.proofs.Common.{◌+◌, ◌*◌}
use Rattle.gob_value.specs.Tree.{depth, trees_depth, pairs_depth, fields_depth}
use Rattle.gob_value.specs.View.{view, views, pair_views, field_views}
use Rattle.gob_left_out.specs.Machine.Walk.{ElementsLeave, EntriesLeave, FieldsLeave, Meets}
use Rattle.gob_left_out.proofs.walk.+walk.Given as goal

abbrev pub decreases-walk_value : goal.decreases-walk_value
decreases-walk_value g l = 4 * depth (view l.value.now)

abbrev pub decreases-walk_behind : goal.decreases-walk_behind
decreases-walk_behind g l = 4 * depth (view l.value.now) + 1

abbrev pub decreases-walk_field : goal.decreases-walk_field
decreases-walk_field g l = 4 * depth (view l.part.now.1) + 2

abbrev pub decreases-walk_elements : goal.decreases-walk_elements
decreases-walk_elements g l = 4 * trees_depth (views l.parts.now) + 3

abbrev pub decreases-walk_entries : goal.decreases-walk_entries
decreases-walk_entries g l = 4 * pairs_depth (pair_views l.parts.now) + 3

abbrev pub decreases-walk_fields : goal.decreases-walk_fields
decreases-walk_fields g l = 4 * fields_depth (field_views l.parts.now) + 3

abbrev pub invariant-walk_elements-loop-part : goal.invariant-walk_elements-loop-part
invariant-walk_elements-loop-part g l =
    Meets l.fn.met l.met
    (ElementsLeave (g.S.Shapes.table l.stream) (g.T.Shapes.table l.wanted) l.pair l.parts l.part-index)

abbrev pub invariant-walk_entries-loop-k : goal.invariant-walk_entries-loop-k
invariant-walk_entries-loop-k g l =
    Meets l.fn.met l.met
    (EntriesLeave (g.S.Shapes.table l.stream) (g.T.Shapes.table l.wanted) l.key l.elem l.parts l.k-index)

abbrev pub invariant-walk_fields-loop-part : goal.invariant-walk_fields-loop-part
invariant-walk_fields-loop-part g l =
    Meets l.fn.met l.met
    (FieldsLeave (g.S.Shapes.table l.stream) (g.T.Shapes.table l.wanted) l.pair l.structs l.parts l.part-index)
