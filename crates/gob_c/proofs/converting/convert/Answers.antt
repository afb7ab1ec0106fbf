use Rattle.std.proofs.Common.{refl}
use Rattle.gob_stream.specs.Bounds.{within_trees}
use Rattle.gob_c.specs.Converting.{has_no_renames}
use Rattle.gob_c.proofs.StreamLaws.{run_so}
use Rattle.gob_c.proofs.converting.convert.Goals as goal

pub returns-in-Ok : goal.returns-in-Ok
returns-in-Ok c =
    let asking = c.args.asking.now in
    run_so c.in-Ok.renames.renames.items c.as_slice.result.now asking.all (within_trees asking.limits)
    asking.renames.now c.args.wanted.now asking.bytes.now _ _ c.conversion_of-made.result c.put_made.result
    c.as_slice.ensures.value c.in-Ok.ensures c.conversion_of-made.ensures c.put_made.ensures

pub returns-in-Err : goal.returns-in-Err
returns-in-Err c = has_no_renames c.in-Err.fault c.in-Err.ensures
    (record { unmade = refl; untold = refl; says = c.of_renames.ensures })
