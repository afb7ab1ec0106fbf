use Rattle.std.proofs.Common.{arith, refl}
use Rattle.gob_read.proofs.Machine.BasicPartSteps.{frame_some}
use Rattle.gob_read.proofs.Machine.Skips.{elements_skipped}
use Rattle.gob_read.proofs.run.Run.skip_elements.Goals as goal

pub replace-requires : goal.replace-requires
replace-requires g c = frame_some _ c.requires.inside

pub returns : goal.returns
returns g c =
    let whole = c.whole_elements-elements.ensures in
    elements_skipped c.args.rest.now c.requires.before.expected c.requires.inside c.replace.ensures refl
    c.requires.untold c.requires.before.has_read c.requires.fresh
    (record { taken = refl; start = refl; number = refl; length_is = refl; depth_is = refl }) whole.few (let d =
    c.depth.ensures.count in omega arith) whole.whole (omega arith) refl refl
