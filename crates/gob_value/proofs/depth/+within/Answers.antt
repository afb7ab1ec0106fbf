use Rattle.std.proofs.Common.{arith, rules, ap, ◌∙◌}
use Rattle.gob_value.specs.View.{view, views, pair_views, field_views}
use Rattle.gob_value.specs.declared.value.Value.{the_lemmas}
use Rattle.gob_value.proofs.TestSteps.{through, always, keep, stop, keep_both, stop_first, stop_second, not_true}
use Rattle.gob_value.proofs.ViewLaws.{view-Many, view-Pairs, view-Fields}
use Rattle.gob_value.proofs.WithinLaws.{leaf_within, parts_inside, pairs_inside, fields_inside, part_within, parts_end}
use Rattle.gob_value.proofs.WithinLaws.{pair_within, pairs_end, field_within, fields_end}
use Rattle.gob_value.proofs.depth.+within.Goals as goal

-- ---- values

pub is_within-returns-in-Many : goal.is_within-returns-in-Many
is_within-returns-in-Many t c =
    let vs = c.in-Many.parts in
    through (rw c.deref.ensures.value at c.are_within.ensures)
    (parts_inside c.args.limit _ (views vs.items) (ap view c.in-Many.is ∙ view-Many vs) (omega arith))

pub is_within-returns-in-Pairs : goal.is_within-returns-in-Pairs
is_within-returns-in-Pairs t c =
    let ps = c.in-Pairs.parts in
    through (rw c.deref-in-Pairs.ensures.value at c.pairs_within.ensures)
    (pairs_inside c.args.limit _ (pair_views ps.items) (ap view c.in-Pairs.is ∙ view-Pairs ps) (omega arith))

pub is_within-returns-in-Fields : goal.is_within-returns-in-Fields
is_within-returns-in-Fields t c =
    let fs = c.in-Fields.parts in
    through (rw c.deref-in-Fields.ensures.value at c.fields_within.ensures)
    (fields_inside c.args.limit _ (field_views fs.items) (ap view c.in-Fields.is ∙ view-Fields fs) (omega arith))

pub is_within-returns-in_default : goal.is_within-returns-in_default
is_within-returns-in_default t c = always (leaf_within c.args.limit (view c.args.value.now) (search (rules, the_lemmas))
    (omega arith))

-- ---- elements

pub are_within-returns-then-not-is_within : goal.are_within-returns-then-not-is_within
are_within-returns-then-not-is_within t c =
    stop (not_true c.if-not-is_within.true c.is_within.ensures)
    (part_within c.args.limit c.args.parts.now c.loop-part.part-index c.part-item.result c.part-item.is (omega arith))
    c.loop-part.invariant

pub are_within-loop-part-preserved : goal.are_within-loop-part-preserved
are_within-loop-part-preserved t c =
    keep (c.is_within.ensures.0 c.if-not-is_within.false)
    (part_within c.args.limit c.args.parts.now c.loop-part.part-index c.part-item.result c.part-item.is (omega arith))
    c.loop-part.invariant

pub are_within-returns : goal.are_within-returns
are_within-returns t c = always (c.loop-part.invariant.0
    (parts_end c.args.limit c.args.parts.now c.loop-part.part-index (omega arith)))

-- ---- keys and elements

pub pairs_within-returns-then-not-is_within : goal.pairs_within-returns-then-not-is_within
pairs_within-returns-then-not-is_within t c =
    stop_first (not_true c.if-not-is_within.true c.is_within.ensures)
    (pair_within c.args.limit c.args.parts.now c.loop-key.key-index c.loop-key-item.result c.loop-key-item.is
    (omega arith)) c.loop-key.invariant

pub pairs_within-returns-then-not-is_within-2 : goal.pairs_within-returns-then-not-is_within-2
pairs_within-returns-then-not-is_within-2 t c =
    stop_second (not_true c.if-not-is_within-2.true c.is_within-in-loop-key.ensures)
    (pair_within c.args.limit c.args.parts.now c.loop-key.key-index c.loop-key-item.result c.loop-key-item.is
    (omega arith)) c.loop-key.invariant

pub pairs_within-loop-key-preserved : goal.pairs_within-loop-key-preserved
pairs_within-loop-key-preserved t c =
    keep_both (c.is_within.ensures.0 c.if-not-is_within.false)
    (c.is_within-in-loop-key.ensures.0 c.if-not-is_within-2.false)
    (pair_within c.args.limit c.args.parts.now c.loop-key.key-index c.loop-key-item.result c.loop-key-item.is
    (omega arith)) c.loop-key.invariant

pub pairs_within-returns : goal.pairs_within-returns
pairs_within-returns t c = always (c.loop-key.invariant.0
    (pairs_end c.args.limit c.args.parts.now c.loop-key.key-index (omega arith)))

-- ---- fields

pub fields_within-returns-then-not-is_within : goal.fields_within-returns-then-not-is_within
fields_within-returns-then-not-is_within t c =
    stop (not_true c.if-not-is_within.true c.is_within.ensures)
    (field_within c.args.limit c.args.parts.now c.loop-part.part-index c.loop-part-item.result c.loop-part-item.is
    (omega arith)) c.loop-part.invariant

pub fields_within-loop-part-preserved : goal.fields_within-loop-part-preserved
fields_within-loop-part-preserved t c =
    keep (c.is_within.ensures.0 c.if-not-is_within.false)
    (field_within c.args.limit c.args.parts.now c.loop-part.part-index c.loop-part-item.result c.loop-part-item.is
    (omega arith)) c.loop-part.invariant

pub fields_within-returns : goal.fields_within-returns
fields_within-returns t c = always (c.loop-part.invariant.0
    (fields_end c.args.limit c.args.parts.now c.loop-part.part-index (omega arith)))
