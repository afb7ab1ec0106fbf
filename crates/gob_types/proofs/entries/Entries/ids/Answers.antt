use Rattle.std.proofs.Common.{◌≡◌, Some, length, arith, refl, sym, ap, subst}
use Rattle.std.proofs.lemmas.Result.{IfOk-from_err}
use Rattle.gob_types.specs.declared.id.TypeId.{TypeId}
use Rattle.gob_types.specs.declared.kind.Shape.{Shape}
use Rattle.gob_types.specs.Table.{Table}
use Rattle.std.specs.Prelude.{slice_get}
use Rattle.gob_types.proofs.FirstLaws.{more_first, first_as}
use Rattle.gob_types.proofs.SetLaws.{adds_one, adds_keeps}
use Rattle.gob_types.proofs.TableLaws.{ids_read}
use Rattle.gob_types.proofs.entries.Entries.ids.Goals as goal

pub loop-place-preserved : goal.loop-place-preserved
loop-place-preserved c =
    let entry : TypeId × Shape = (c.in-Some.id.now, c.in-Some.field-0-1.now) in
    let a = adds_one _ c.in_ok-add.ensures.added in
    more_first {x = entry} (first_as c.loop-place.invariant (λ other h. adds_keeps a other.0 h))
    (subst (λ (T : Table). slice_get T c.loop-place.place ≡ Some entry) c.self.view_is
    (sym c.in-Some.ensures.entry)) (a.has _ refl)

pub returns : goal.returns
returns c u d = ids_read c.loop-place.ids c.loop-place.invariant
    (omega (arith, c.loop-place-test.false, c.len-place-end.ensures.len, ap (λ (T : Table). length T) c.self.view_is)) u
    d

pub returns-in_err-add : goal.returns-in_err-add
returns-in_err-add c = IfOk-from_err c.from_residual.result _ c.from_residual.ensures.0
