use Rattle.std.proofs.Common.{List, ap, refl, subst, sym}
use Rattle.std.proofs.lemmas.Bool.{true≢false}
use Rattle.std.proofs.Math.ListN.{drop_of_length-le}
use Rattle.gob_types.specs.Defined.{types}
use Rattle.gob_types.specs.declared.id.TypeId.{TypeId}
use Rattle.gob_write.specs.Types.{ids_of}
use Rattle.gob_write.proofs.TypesLaws.{NoneBefore, ids_from, none_before, none_found, one_found, one_passed}
use Rattle.gob_write.proofs.types.defined_type_named.Goals as goal

pub loop-definition-init : goal.loop-definition-init
loop-definition-init c = none_before _ _ _

pub returns-then-is_named : goal.returns-then-is_named
returns-then-is_named c =
    let ds = c.args.definitions.now in
    one_found (subst (λ (ids : List TypeId). NoneBefore (types c.args.table.now) c.args.word.now (ids_of ds) ids)
    (ids_from ds c.loop-definition.definition-index c.definition-item.result c.definition-item.is
    c.loop-definition-test.true) c.loop-definition.invariant) (c.if-is_named.ensures.0 refl)

pub loop-definition-preserved : goal.loop-definition-preserved
loop-definition-preserved c =
    let ds = c.args.definitions.now in
    one_passed (subst (λ (ids : List TypeId). NoneBefore (types c.args.table.now) c.args.word.now (ids_of ds) ids)
    (ids_from ds c.loop-definition.definition-index c.definition-item.result c.definition-item.is
    c.loop-definition-test.true) c.loop-definition.invariant)
    (λ named. true≢false (sym (c.if-is_named.ensures.1 named)))

pub returns : goal.returns
returns c =
    let ds = c.args.definitions.now in
    none_found (subst (λ (ids : List TypeId). NoneBefore (types c.args.table.now) c.args.word.now (ids_of ds) ids)
    (ap ids_of (drop_of_length-le ds c.loop-definition-test.false)) c.loop-definition.invariant)
