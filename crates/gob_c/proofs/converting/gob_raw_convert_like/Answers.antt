use Rattle.std.proofs.Common.{refl}
use Rattle.gob_c.specs.Asked.{asked_bounds}
use Rattle.gob_c.specs.Converting.{IsWantedOfStream, isn't_wanted}
use Rattle.gob_c.specs.Writing.{named_by}
use Rattle.gob_c.proofs.StreamLaws.{first_wanted, named_wanted, told_so}
use Rattle.gob_c.proofs.converting.gob_raw_convert_like.Goals as goal

pub returns-then-is_empty : goal.returns-then-is_empty
returns-then-is_empty c =
    let stream = c.args.stream.now in
    told_so (asked_bounds c.args.asked.now) c.in-Some.limits c.args.asked.now.all c.args.renames.now
    (λ wanted. IsWantedOfStream stream wanted (named_by c.args.named.now)) c.args.bytes.now _ _ stream stream
    c.convert.result (c.in-Some.ensures.some.0 refl) c.in-Some.ensures.given refl
    (first_wanted stream c.args.named.now c.is_empty.result c.is_empty.ensures c.if-is_empty.true) c.convert.ensures

pub returns-in-Ok : goal.returns-in-Ok
returns-in-Ok c =
    let stream = c.args.stream.now in
    told_so (asked_bounds c.args.asked.now) c.in-Some.limits c.args.asked.now.all c.args.renames.now
    (λ wanted. IsWantedOfStream stream wanted (named_by c.args.named.now)) c.args.bytes.now _ _ c.in-Ok.wanted.items
    c.as_slice.result.now c.convert-in-Ok.result (c.in-Some.ensures.some.0 refl) c.in-Some.ensures.given
    c.as_slice.ensures.value
    (named_wanted stream c.args.named.now c.in-Ok.wanted.items c.is_empty.result c.is_empty.ensures c.if-is_empty.false
    c.in-Ok.ensures) c.convert-in-Ok.ensures

pub returns-in-Err : goal.returns-in-Err
returns-in-Err c = isn't_wanted (c.in-Some.ensures.some.0 refl) c.in-Err.fault
    (record { unmade = refl; untold = refl; says = c.of_wanted.ensures })
