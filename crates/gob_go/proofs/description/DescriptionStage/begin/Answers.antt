use Rattle.std.proofs.Common.{◌≡◌, [], ◌-◌, min, refl, subst, arith}
use Rattle.gob_types.specs.Base.{wire_type}
use Rattle.gob_types.specs.Defined.{types}
use Rattle.gob_read.specs.Calls.Builders.{tree_building}
use Rattle.gob_read.specs.Calls.UnderWay.{HasReadBody}
use Rattle.gob_stream.specs.Bounds.{within_trees, greatest_depth}
use Rattle.gob_stream.proofs.Reader.DescriptionSteps.{wire_ready_in}
use Rattle.gob_go.proofs.description.DescriptionStage.begin.Goals as goal

pub returns-in-Ok : goal.returns-in-Ok
returns-in-Ok c =
    let L = within_trees c.args.around.now.limits in
    let e : min c.depth-depth.result greatest_depth ≡ L.depth = omega (arith, c.depth-depth.ensures) in (
      c.in_default.ensures.judged L c.requires.known.most,
      c.in_default.ensures.admitted,
      refl,
      refl,
      subst (λ n. HasReadBody tree_building (types c.args.table.now) wire_type n
          (c.args.end - c.args.around.now.taken) c.in-Ok.reader []) e
          (c.in-Ok.ensures (types c.args.table.now) (wire_ready_in c.requires.known.base)),
    )
