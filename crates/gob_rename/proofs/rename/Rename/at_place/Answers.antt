-- The names stand around the last dot, or there is none.
use Rattle.std.proofs.Common.{Some, None, arith}
use Rattle.gob_rename.proofs.WordLaws.{cut_at_last, said_of, said_of_all}
use Rattle.gob_rename.proofs.rename.Rename.at_place.Goals as goal

pub returns-in-Some : goal.returns-in-Some
returns-in-Some c =
    let cut = cut_at_last 46 c.args.place.now (Some (c.in-Some.of, c.in-Some.old)) c.in-Some.ensures.cases
    (omega arith) in
    said_of _ _ _ _ _ _ _ cut.0 cut.1 c.as_bytes.ensures.value c.as_bytes-in-Some.ensures.value
    c.as_bytes-in-Some-2.ensures.value

pub returns-in-None : goal.returns-in-None
returns-in-None c =
    let lacks = cut_at_last 46 c.args.place.now None c.in-None.ensures.cases (omega arith) in
    said_of_all _ _ _ _ lacks c.as_bytes-in-None.ensures.value c.as_bytes-in-None-2.ensures.value
