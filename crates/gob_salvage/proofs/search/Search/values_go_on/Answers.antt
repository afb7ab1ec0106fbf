use Rattle.std.proofs.Common.{arith, subst, sym}
use Rattle.gob_types.specs.Defined.{types}
use Rattle.gob_stream.specs.Bounds.{Bounds, within_trees}
use Rattle.gob_salvage.specs.Evidence.{StandsUpTo, nothing_yet}
use Rattle.gob_salvage.specs.Searching.{AreNoted}
use Rattle.gob_salvage.proofs.SearchLaws.{go_on_so, not_spent}
use Rattle.gob_salvage.proofs.search.Search.values_go_on.Goals as goal

pub items-init : goal.items-init
items-init c = record {
  few = omega arith;
  inside = omega arith;
  spent = not_spent;
  stands = λ kept noted. nothing_yet;
}

pub returns-then-is_enough-clause-shown : goal.returns-then-is_enough-clause-shown
returns-then-is_enough-clause-shown c = λ kept noted t.
    let T = types c.args.table.now in
    let piece = c.args.piece.now in
    let spent = c.items.invariant.spent in
    let row = c.items.row in
    let more = c.in-Some.longer in
    let before = subst (λ k. AreNoted k kept) (sym spent.types) noted in
    let there = subst (λ (M : Bounds). StandsUpTo (within_trees M) T kept piece row.values row.others row.end)
    (sym spent.limits) (c.items.invariant.stands kept noted) in
    let longer = rw c.in-Some.is at (c.in_ok-longer.ensures.stands kept before there) in
    go_on_so c.is_empty-is_first.result (λ e. c.is_empty-is_first.ensures e kept noted)
    (subst (λ (M : Bounds). StandsUpTo (within_trees M) T kept piece more.values more.others more.end) spent.limits
    longer) (c.is_enough.ensures.first c.if-is_enough.true) (c.is_enough.ensures.few c.if-is_enough.true)
    (c.is_enough.ensures.later c.if-is_enough.true) c.reaches_end.ensures
