use Rattle.std.proofs.Common.{◌≡◌, None, sym, subst, ◌∙◌}
use Rattle.std.proofs.lemmas.Option.{slice_get-get_or}
use Rattle.gob_types.specs.Table.{shape_of, IsDefined}
use Rattle.gob_types.specs.Defined.{types}
use Rattle.gob_types.specs.Machine.Walk.{IsLeastBad}
use Rattle.gob_types.proofs.WalkLaws.{told_some, told_none}
use Rattle.gob_types.proofs.LeastLaws.{least_pass, least_take, least_end}
use Rattle.gob_types.proofs.readiness.least_undefined.Goals as goal

pub loop-id-preserved-then-is_some : goal.loop-id-preserved-then-is_some
loop-id-preserved-then-is_some c =
    let T = types c.args.table.now in
    let ids = c.as_slice-id-items.result.now in
    let at = slice_get-get_or ids c.loop-id.id-index _ c.loop-id-test.true in
    let s = told_some c.shape_of.result _ c.shape_of.ensures (sym c.is_some.ensures ∙ c.if-is_some.true) in
    least_pass (IsDefined T) (λ u. shape_of T u ≡ None) ids c.loop-id.id-index _ c.loop-id.least c.loop-id.invariant at
    s (λ none. cc (s.1, none))

pub loop-id-preserved : goal.loop-id-preserved
loop-id-preserved c =
    let T = types c.args.table.now in
    let ids = c.as_slice-id-items.result.now in
    let at = slice_get-get_or ids c.loop-id.id-index _ c.loop-id-test.true in
    let missing = told_none c.shape_of.result _ c.shape_of.ensures (sym c.is_some.ensures ∙ c.if-is_some.false) in
    let e = c.lesser.ensures in
    least_take (IsDefined T) (λ u. shape_of T u ≡ None) ids c.loop-id.id-index _ c.loop-id.least c.lesser.result
    (λ u d none. cc (d.1, none)) c.loop-id.invariant at missing e.either e.below e.below_least

pub returns : goal.returns
returns c =
    let T = types c.args.table.now in
    subst (λ ids. IsLeastBad (IsDefined T) (λ u. shape_of T u ≡ None) ids c.loop-id.least) c.as_slice-id-items.ensures
    (least_end (IsDefined T) (λ u. shape_of T u ≡ None) c.as_slice-id-items.result.now c.loop-id.id-index
    c.loop-id.least c.loop-id.invariant c.loop-id-test.false)
