use Rattle.std.proofs.Common.{refl}
use Rattle.std.proofs.lemmas.Result.{err_from_is_err_and}
use Rattle.gob_value.specs.View.{view}
use Rattle.gob_go.proofs.DescriptionSteps.{loosely_denied, defines_as}
use Rattle.gob_go.proofs.description.define.Goals as goal

pub returns-in_err-shape : goal.returns-in_err-shape
returns-in_err-shape c =
    let p = err_from_is_err_and c.from_residual.result c.from_residual.ensures.1 in
    rw (p.1, p.2) (
      loosely_denied c.args.id (view c.args.described.now) c.in_err-shape.field-0.0
          c.in_err-shape.ensures.fault,
      refl,
    )

pub returns : goal.returns
returns c = defines_as c.args.id (view c.args.described.now) c.in_ok-shape.shape c.args.table.now
    c.define_admitted.new.table c.define_admitted.result c.in_ok-shape.ensures.shape c.define_admitted.ensures
