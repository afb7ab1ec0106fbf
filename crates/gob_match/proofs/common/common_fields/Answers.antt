use Rattle.std.proofs.Common.{◌≡◌, ℕ, List, length, refl, sym, ap, Contains, subst, Some, arith}
use Rattle.std.proofs.lemmas.Option.{slice_get_read}
use Rattle.std.specs.Prelude.{slice_get}
use Rattle.std.proofs.lemmas.Result.{IfOk-from_err}
use Rattle.gob_match.specs.declared.common.CommonField.{CommonField}
use Rattle.gob_match.specs.Pairs.{of_types}
use Rattle.gob_match.proofs.NameLaws.{CommonSoFar, common_none, common_missing, common_next, common_all, no_field}
use Rattle.gob_match.proofs.common.common_fields.Goals as goal

pub loop-number-init : goal.loop-number-init
loop-number-init c = subst (CommonSoFar c.args.stream.now c.args.wanted.now 0) (sym c.new-common.ensures.items)
    common_none

pub unreachable-requires : goal.unreachable-requires
unreachable-requires c = no_field c.in-Some.place c.as_bytes.result.now c.requires c.in-Some.ensures
    c.in_default-get.ensures.found

pub loop-number-preserved-in_default : goal.loop-number-preserved-in_default
loop-number-preserved-in_default c =
    let wanted = c.args.wanted.now in
    let there = slice_get_read wanted (length wanted) c.loop-number.number c.index-wanted-number.result refl
    c.loop-number-test.true c.index-wanted-number.is in
    common_missing c.loop-number.invariant there c.requires
    (subst (λ n. ¬ Contains c.args.names.now n) c.as_bytes.ensures c.in_default.ensures)

pub loop-number-preserved : goal.loop-number-preserved
loop-number-preserved c =
    let wanted = c.args.wanted.now in
    let item = c.index-wanted-number.result in
    let there = slice_get_read wanted (length wanted) c.loop-number.number item refl c.loop-number-test.true
    c.index-wanted-number.is in
    let named = subst (λ n. slice_get c.args.names.now c.in-Some.place ≡ Some n) c.as_bytes.ensures c.in-Some.ensures in
    let common : List ℕ → CommonField = λ n. record {
      name = n;
      stream = c.in-Some.place;
      wanted = c.loop-number.number;
      pair = of_types c.in-Some-get.other.now.id
          item.id;
    } in
    common_next c.loop-number.invariant there c.requires named (sym c.in-Some-get.ensures.found) (omega arith)
    (ap common c.in_ok-name.ensures) c.in_ok-push.ensures.items

pub returns : goal.returns
returns c = common_all c.loop-number.invariant c.loop-number-test.false

pub returns-in_err-name : goal.returns-in_err-name
returns-in_err-name c = IfOk-from_err c.from_residual.result _ c.from_residual.ensures.0

pub returns-in_err-push : goal.returns-in_err-push
returns-in_err-push c = IfOk-from_err c.from_residual-in_err-push.result _ c.from_residual-in_err-push.ensures.0
