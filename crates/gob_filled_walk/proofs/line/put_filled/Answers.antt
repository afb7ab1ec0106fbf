-- The output is where the text went.
use Rattle.std.proofs.Common.{rules}
use Rattle.gob_filled_walk.proofs.WalkLaws.{ok_more}
use Rattle.gob_filled_walk.proofs.line.put_filled.Goals as goal

pub returns : goal.returns
returns g c = ok_more c.walk_filled-held.result (λ h.
    let same = h.2.0 in
    let sent = h.2.1 in
    record { events = h.0; reads = h.1; put = search rules })
    c.walk_filled-held.ensures
