use Rattle.std.proofs.Common.{List, ap, drop, subst, sym, ℕ}
use Rattle.std.proofs.lemmas.List.{take_rest}
use Rattle.gob_types.specs.Base.{base_table}
use Rattle.gob_stream.specs.Bounds.{Bounds, within_trees}
use Rattle.gob_filled.specs.Stream.{FilledStream}
use Rattle.gob_salvage.specs.Breaks.{BeginsBehind}
use Rattle.gob_salvage.specs.Fronts.{StandsBehind}
use Rattle.gob_salvage.proofs.LaterLaws.{begins_behind}
use Rattle.gob_salvage.proofs.later.find_later.Goals as goal

pub returns-in-Stands-clause-anew : goal.returns-in-Stands-clause-anew
returns-in-Stands-clause-anew c = λ items T a.
    let same = ap (λ L. within_trees L) c.limits-limits.ensures in
    let front = c.in_ok-front.front.items in
    let w = c.in_ok-front.ensures T (rw c.deref.ensures.value (c.in_ok-definitions.ensures items T
    (subst (λ (M : Bounds). FilledStream base_table M items c.args.defining.now T) (sym same) a))) in
    let L = within_trees c.limits-limits.result in
    let ids = c.ids.group.ids.keys in
    let there = subst (λ (z : List ℕ). StandsBehind L c.deref-in-ids.result.now z ids)
    (take_rest c.args.bytes.now c.args.clash.at) (c.in_ok-stands_behind.ensures c.in-Stands.is) in
    subst (λ (M : Bounds). BeginsBehind M T front (drop c.args.clash.at c.args.bytes.now)) same
    (begins_behind w (subst (λ (f : List ℕ). StandsBehind L f (drop c.args.clash.at c.args.bytes.now) ids)
    c.deref-in-ids.ensures.value there))
