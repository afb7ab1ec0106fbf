use Rattle.std.proofs.Common.{refl}
use Rattle.gob_c.specs.Asked.{asked_bounds}
use Rattle.gob_c.specs.Converting.{IsWantedOfSource, isn't_wanted}
use Rattle.gob_c.specs.Writing.{named_by}
use Rattle.gob_c.proofs.StreamLaws.{told_so}
use Rattle.gob_c.proofs.converting.gob_raw_convert.Goals as goal

pub returns-in-Ok : goal.returns-in-Ok
returns-in-Ok c =
    told_so (asked_bounds c.args.asked.now) c.in-Some.limits c.args.asked.now.all c.args.renames.now
    (IsWantedOfSource c.args.source.now (named_by c.args.named.now)) c.args.bytes.now _ _
    c.in-Ok.wanted.items c.as_slice.result.now c.convert.result (c.in-Some.ensures.some.0 refl)
    c.in-Some.ensures.given c.as_slice.ensures.value c.in-Ok.ensures c.convert.ensures

pub returns-in-Err : goal.returns-in-Err
returns-in-Err c = isn't_wanted (c.in-Some.ensures.some.0 refl) c.in-Err.fault
    (record { unmade = refl; untold = refl; says = c.of_wanted.ensures })
