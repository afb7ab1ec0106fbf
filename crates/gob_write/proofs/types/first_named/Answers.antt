use Rattle.std.proofs.Common.{List, refl, subst, sym}
use Rattle.std.proofs.lemmas.Bool.{true≢false}
use Rattle.std.proofs.Math.ListN.{drop_of_length-le}
use Rattle.gob_types.specs.Defined.{types}
use Rattle.gob_types.specs.declared.id.TypeId.{TypeId}
use Rattle.gob_write.proofs.TypesLaws.{NoneBefore, from_place, none_before, none_found, one_found, one_passed}
use Rattle.gob_write.proofs.types.first_named.Goals as goal

pub loop-id-init : goal.loop-id-init
loop-id-init c = none_before _ _ _

pub returns-then-is_named : goal.returns-then-is_named
returns-then-is_named c =
    one_found (subst (λ (ids : List TypeId). NoneBefore (types c.args.table.now) c.args.word.now c.args.ids.now ids)
    (from_place c.args.ids.now c.loop-id.id-index _ c.loop-id-test.true)
    c.loop-id.invariant) (c.if-is_named.ensures.0 refl)

pub loop-id-preserved : goal.loop-id-preserved
loop-id-preserved c =
    one_passed (subst (λ (ids : List TypeId). NoneBefore (types c.args.table.now) c.args.word.now c.args.ids.now ids)
    (from_place c.args.ids.now c.loop-id.id-index _ c.loop-id-test.true)
    c.loop-id.invariant) (λ named. true≢false (sym (c.if-is_named.ensures.1 named)))

pub returns : goal.returns
returns c =
    none_found (subst (λ (ids : List TypeId). NoneBefore (types c.args.table.now) c.args.word.now c.args.ids.now ids)
    (drop_of_length-le c.args.ids.now c.loop-id-test.false) c.loop-id.invariant)
